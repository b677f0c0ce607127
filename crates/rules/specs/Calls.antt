-- The rule of each call: its questions in order, and what it leaves and answers.
use Rattle.std.specs.Prelude.{ℕ, ◌+◌, Bool, ◌&&◌, List, ◌++◌, length, drop, Some, None, Option, ◌==◌, nat_le, nat_lt, slice_index, slice_set}
use Rattle.vocabulary.specs.declared.parameter.Parameter.{Parameter}
use Rattle.vocabulary.specs.declared.access.Access.{Access}
use Rattle.vocabulary.specs.declared.found.Found.{Found}
use Rattle.vocabulary.specs.Refusals.{by_table, by_unit, by_turn}
use Rattle.one_way.specs.Chains.{chain}
use Rattle.one_way.specs.OneWay.{Meaning}
use Rattle.memory.specs.Pages.{Page, put}
use Rattle.rules.specs.Console.{Machine, Register, holding, Slot, Console, Executive, create, end, turn, close, Request, activate, visit, grant, revoke, derive, rekey, access, Call, exec, app, done, value, visited, Answer, refused, accepted, Outcome, accept, out_of_turn, ask, need, unless, is_none}
use Rattle.rules.specs.Domains.{has, with_context, without_context, union}
use Rattle.rules.specs.LookUp.{place_of, first_repeat, look_up, domain_at}
use Rattle.rules.specs.Visits.{fault_of, pages_after, reply_to, Visit, visiting}

-- ---- a console with one part replaced

abbrev pub with_slot : Console → ℕ → Option Slot → Console
with_slot k s o = record { slots = put k.slots s o; register = k.register; turn_of = k.turn_of; pages = k.pages }

abbrev pub with_register : Console → Register → Console
with_register k g = record { slots = k.slots; register = g; turn_of = k.turn_of; pages = k.pages }

abbrev pub with_pages : Console → (ℕ → Page) → Console
with_pages k m = record { slots = k.slots; register = k.register; turn_of = k.turn_of; pages = m }

-- ---- a slot with one part replaced

abbrev pub with_domain : Slot → ℕ → ℕ → Slot
with_domain σ i d =
    record { parameter = σ.parameter; passwords = σ.passwords; domains = slice_set σ.domains i d; saved = σ.saved; reach = σ.reach }

abbrev pub with_saved : Slot → Register → Slot
with_saved σ g =
    record { parameter = σ.parameter; passwords = σ.passwords; domains = σ.domains; saved = g; reach = σ.reach }

abbrev pub with_chain : Slot → Parameter → List ℕ → Slot
with_chain σ p ps = record { parameter = p; passwords = ps; domains = σ.domains; saved = σ.saved; reach = σ.reach }

abbrev pub new_slot : Parameter → List ℕ → List ℕ → Slot
new_slot p ps ds = record { parameter = p; passwords = ps; domains = ds; saved = holding (slice_index ds 0); reach = union ds }

-- ---- the executive's calls

-- create and rekey: the high half is admitted, and all passwords of the chain differ
abbrev pub admit : ℕ → Parameter → List ℕ → Outcome → Outcome
admit greatest p ps o = ask (nat_le p.high greatest) (by_table 7 0) (unless (first_repeat ps) (by_table 8) o)

abbrev pub create_rule : Meaning → Console → ℕ → Parameter → ℕ → List ℕ → Outcome
create_rule way k s p w ds =
    ask (nat_lt s 8) (by_table 4 0)
    (ask (is_none (k.slots s)) (by_table 5 0)
    (ask (nat_le 1 (length ds) && nat_le (length ds) 8) (by_table 6 0)
    (admit way.greatest p (chain way.H p (length ds) w)
    (accept (with_slot k s (Some (new_slot p (chain way.H p (length ds) w) ds))) done))))

abbrev pub end_rule : Console → ℕ → Outcome
end_rule k s = ask (nat_lt s 8) (by_table 4 0) (need (k.slots s) (by_table 9 0) (λ σ. accept (with_slot k s None) done))

abbrev pub turn_rule : Console → ℕ → Outcome
turn_rule k s =
    ask (nat_lt s 8) (by_table 4 0)
    (need (k.slots s) (by_table 9 0)
    (λ σ. accept (record { slots = k.slots; register = σ.saved; turn_of = Some s; pages = k.pages }) done))

-- s is the slot whose turn it is, σ what it holds
abbrev pub close_rule : Console → ℕ → Slot → Outcome
close_rule k s σ =
    accept
    (record {
      slots = put k.slots s (Some (with_saved σ k.register));
      register = holding 0;
      turn_of = None;
      pages = k.pages;
    })
    done

-- ---- the calls of the app in slot s

-- the domain found is loaded, and is the answer
abbrev pub activate_done : Console → Found → Outcome
activate_done k f =
    accept (with_register k (holding (domain_at k.slots f.slot f.place))) (value (domain_at k.slots f.slot f.place))

abbrev pub activate_rule : Console → ℕ → ℕ → Outcome
activate_rule k s w = need (look_up k.slots s w) (by_table 10 0) (λ f. activate_done k f)

-- the register is the one before; of the buffer the bytes past those of the accesses made are untouched
abbrev pub visit_done : Console → List ℕ → Visit → Outcome
visit_done k buffer v = accept (with_pages k v.left) (visited v.made v.fault (v.bytes ++ drop v.made buffer))

-- the accesses are made under the domain found
abbrev pub visit_found : Machine → Console → List Access → List ℕ → Found → Outcome
visit_found M k l buffer f =
    visit_done k buffer (visiting M.field M.effect l (domain_at k.slots f.slot f.place) k.pages 0)

abbrev pub visit_rule : Machine → Console → ℕ → ℕ → List Access → List ℕ → Outcome
visit_rule M k s w l buffer =
    ask (nat_le (length l) 64) (by_turn 18 0)
    (ask (nat_le (length l) (length buffer)) (by_turn 19 0)
    (need (look_up k.slots s w) (by_table 10 0) (λ f. visit_found M k l buffer f)))

abbrev pub is_master : Slot → ℕ → Bool
is_master σ w = w == slice_index σ.passwords 0

-- the questions of revoke, and those of grant
abbrev pub revoke_asks : Slot → ℕ → ℕ → ℕ → Outcome → Outcome
revoke_asks σ w i c o =
    ask (is_master σ w) (by_table 13 0)
    (ask (nat_le 1 i && nat_lt i (length σ.passwords)) (by_table 12 0)
    (ask (nat_lt c 16) (by_table 14 0) o))

abbrev pub grant_asks : Slot → ℕ → ℕ → ℕ → Outcome → Outcome
grant_asks σ w i c o = revoke_asks σ w i c (ask (has (slice_index σ.domains 0) c) (by_table 15 i) o)

-- domain d stands at place i, and is the answer
abbrev pub domain_put : Console → ℕ → Slot → ℕ → ℕ → Outcome
domain_put k s σ i d = accept (with_slot k s (Some (with_domain σ i d))) (value d)

abbrev pub grant_rule : Console → ℕ → Slot → ℕ → ℕ → ℕ → Outcome
grant_rule k s σ w i c = grant_asks σ w i c (domain_put k s σ i (with_context (slice_index σ.domains i) c))

abbrev pub revoke_rule : Console → ℕ → Slot → ℕ → ℕ → ℕ → Outcome
revoke_rule k s σ w i c = revoke_asks σ w i c (domain_put k s σ i (without_context (slice_index σ.domains i) c))

abbrev pub derive_rule : Console → Slot → ℕ → ℕ → Outcome
derive_rule k σ w n =
    need (place_of w σ.passwords) (by_table 11 0)
    (λ i. ask (nat_lt (i + n) (length σ.passwords)) (by_table 12 0) (accept k (value (slice_index σ.passwords (i + n)))))

-- domains and registers keep their values
abbrev pub rekey_rule : Meaning → Console → ℕ → Slot → ℕ → Parameter → Outcome
rekey_rule way k s σ w p =
    ask (is_master σ w) (by_table 13 0)
    (admit way.greatest p (chain way.H p (length σ.passwords) w)
    (accept (with_slot k s (Some (with_chain σ p (chain way.H p (length σ.passwords) w)))) done))

abbrev pub access_rule : Machine → Console → Access → Outcome
access_rule M k a =
    unless (fault_of M.field k.register.domain a) (λ n. by_unit n 0)
    (accept (with_pages k (pages_after M.effect k.pages a)) (reply_to k.pages a))

-- ---- all calls

module _ (M : Machine) where
  -- create, end and turn between turns; close in one
  abbrev pub executive_rule : Console → Executive → Outcome
  executive_rule k (create s p w ds) = ask (is_none k.turn_of) out_of_turn (create_rule M.way k s p w ds)
  executive_rule k (end s) = ask (is_none k.turn_of) out_of_turn (end_rule k s)
  executive_rule k (turn s) = ask (is_none k.turn_of) out_of_turn (turn_rule k s)
  executive_rule k close = need k.turn_of out_of_turn (λ s. need (k.slots s) out_of_turn (λ σ. close_rule k s σ))

  abbrev pub request_rule : Console → ℕ → Slot → Request → Outcome
  request_rule k s σ (activate w) = activate_rule k s w
  request_rule k s σ (visit w l b) = visit_rule M k s w l b
  request_rule k s σ (grant w i c) = grant_rule k s σ w i c
  request_rule k s σ (revoke w i c) = revoke_rule k s σ w i c
  request_rule k s σ (derive w n) = derive_rule k σ w n
  request_rule k s σ (rekey w p) = rekey_rule M.way k s σ w p
  request_rule k s σ (access a) = access_rule M k a

  abbrev pub rule : Console → Call → Outcome
  rule k (exec e) = executive_rule k e
  rule k (app q) = need k.turn_of out_of_turn (λ s. need (k.slots s) out_of_turn (λ σ. request_rule k s σ q))

-- the caller's buffer after a visit, from the bytes that it had, which count as an argument of the call
abbrev pub buffer_after : List ℕ → Answer → List ℕ
buffer_after old (refused f) = old
buffer_after old (accepted done) = old
buffer_after old (accepted (value d)) = old
buffer_after old (accepted (visited n f new)) = new
