-- The worked console and the edges, by computation.
use Rattle.std.proofs.Common.{refl}
use Rattle.memory.specs.Kinds.{page_by}
use Rattle.rules.specs.Boot.{field_of_rows, boot_rule}
use Rattle.rules.specs.Domains.{with_context, without_context, union_from}
use Rattle.rules.specs.Edges.{Edges}
use Rattle.rules.specs.LookUp.{look_up}
use Rattle.rules.specs.Runs.{state, answer}
use Rattle.rules.specs.Worked.{drill_and_ram, WorkedConsole}

pub worked_console : WorkedConsole
unfolding drill_and_ram page_by field_of_rows boot_rule with_context without_context union_from look_up state answer
worked_console =
    record {
      boots = refl;
      created = refl;
      fields = (refl, refl, refl);
      domain_2 = (refl, refl, refl);
      domain_5 = (refl, refl, refl);
      chains = (refl, refl);
      own_first = (refl, refl);
      then_others = (refl, refl);
      derives = (refl, refl, refl);
      grants = (refl, refl, refl, refl);
      revokes = (refl, refl);
      rekeys = (refl, refl, refl, refl, refl);
      visits = (refl, refl);
      repeats = (refl, refl);
    }

pub edges : Edges
unfolding drill_and_ram page_by field_of_rows boot_rule with_context without_context union_from look_up state answer
edges =
    record {
      created = refl;
      last_context = (refl, refl, refl);
      contexts = (refl, refl);
      slots = (refl, refl);
      domains = (refl, refl, refl);
      addresses = (refl, refl, refl, refl);
      accesses = (refl, refl);
      buffers = (refl, refl, refl);
      table_lengths = (refl, refl, refl, refl);
      rows = (refl, refl, refl, refl, refl, refl);
      order = (refl, refl, refl);
    }
