-- What the code's results say, in the rules' words.
use Rattle.std.specs.Prelude.{Some, None, Ok, Err, Option, Result}
use Rattle.vocabulary.specs.declared.refusal.Refusal.{Refusal}
use Rattle.vocabulary.specs.declared.refusal.Refused.{Refused}
use Rattle.vocabulary.specs.Refusals.{Reason, reason}
use Rattle.rules.specs.Console.{Reply, done, Answer, refused, accepted, Outcome, refuse}

-- an answer: what it says where the call is accepted, else the reason of the refusal
abbrev pub told : {A : Type 0} → (A → Reply) → Result A Refusal → Answer
told f (Ok a) = accepted (f a)
told f (Err e) = refused (reason e)

-- the answer of a call that hands back what it was given where it is refused
abbrev pub told_opening : {A B : Type 0} → Result A (Refused B) → Answer
told_opening (Ok a) = accepted done
told_opening (Err x) = refused (reason x.refusal)

-- the reason of a refusal, if there is one
abbrev pub refusal_in : {A : Type 0} → Result A Refusal → Option Reason
refusal_in (Ok a) = None
refusal_in (Err e) = Some (reason e)

-- questions that were asked: o if all were answered "yes", else the refusal
abbrev pub asked : {A : Type 0} → Result A Refusal → Outcome → Outcome
asked (Ok a) o = o
asked (Err e) o = refuse (reason e)
