-- The isolation law: an app's pages stay its own. Each promise is about every run from boot, or about two of them.
use Rattle.std.specs.Prelude.{◌≡◌, ℕ, ◌+◌, ◌<◌, ◌≤◌, Bool, false, cond, T, ◌⊎◌, List, [], ◌∷◌, ◌++◌, length, take, drop, Some, None, Option, ◌==◌, slice_index}
use Rattle.vocabulary.specs.declared.access.Access.{Access}
use Rattle.vocabulary.specs.declared.access.Right.TheVariants as right
use Rattle.vocabulary.specs.Accesses.{address_of, right_of}
use Rattle.vocabulary.specs.Refusals.{Reason, by_table, by_unit, by_turn}
use Rattle.memory.specs.Pages.{page_of}
use Rattle.rules.specs.Console.{Setting, Register, holding, Slot, Console, Executive, create, end, turn, close, Request, activate, visit, derive, access, Call, exec, app, Reply, done, value, visited, Answer, refused, accepted, out_of_turn, is_at}
use Rattle.rules.specs.Domains.{has, Within, Allow}
use Rattle.rules.specs.History.{App, Presented, Holder, Passed, executive_calls, presented, turns_allow, running, holder, in_turn, apps, chain_of, domain_of, passed, written}
use Rattle.rules.specs.Lists.{Any, All, Holds}
use Rattle.rules.specs.LookUp.{place_of, first_repeat, passwords_of}
use Rattle.rules.specs.Runs.{Run, state, answer}

-- ---- what is compared of two runs

-- app n: the one whose create is the executive's call number n, from 0
abbrev pub is_app : ℕ → Option Holder → Bool
is_app n None = false
is_app n (Some X) = X.who.create_number == n

-- a call of the executive with its outcome; another app's create by its slot and outcome alone; a call of the app itself
pub data Compared : Type 0 where
  executive : Executive → Answer → Compared
  other_create : ℕ → Answer → Compared
  own : Request → Compared

-- a call of the executive, where b tells whether it is its call number n
abbrev pub compared_of : Bool → Executive → Answer → Compared
compared_of b (create s p w ds) a = cond b (executive (create s p w ds) a) (other_create s a)
compared_of b (end s) a = executive (end s) a
compared_of b (turn s) a = executive (turn s) a
compared_of b close a = executive close a

-- the register of the app in slot s: the loaded one in its turn, else the saved one
abbrev pub saved_of : Option Slot → Register
saved_of None = holding 0
saved_of (Some σ) = σ.saved

abbrev pub register_of : Console → ℕ → Register
register_of k s = cond (is_at k.turn_of s) k.register (saved_of (k.slots s))

module _ (S : Setting) where
  -- ---- slots and turns

  -- what a slot holds, and which app has it by the run: its parameter, its chain, in which no password is twice, and its domains
  abbrev pub Follows : Option Slot → Option Holder → Type 0
  Follows None None = Unit {0}
  Follows None (Some X) = ⊥
  Follows (Some σ) None = ⊥
  Follows (Some σ) (Some X) =
      (σ.parameter ≡ X.parameter) × (σ.passwords ≡ chain_of S X) × (first_repeat (chain_of S X) ≡ None) × (σ.domains ≡ X.domains)

  -- a slot is taken from its app's create to its end, and holds that app's parameter, chain and domains
  abbrev pub SlotsFollowApps : Type 0
  SlotsFollowApps = (r : Run) (s : ℕ) → Follows ((state S r).slots s) (holder S r s)

  -- the slot whose turn it is has an app, so that no call of an app is without one
  abbrev pub TurnsHaveApps : Type 0
  TurnsHaveApps = (r : Run) (s : ℕ) → running S r ≡ Some s → (X : Holder) × (holder S r s ≡ Some X)

  -- a call that the turns allow is never answered out of turn; any other is, and leaves the console as it is
  abbrev pub Answered : Type 0
  Answered =
      (r : Run) (c : Call) →
      (T (turns_allow (running S r) c) → ¬ (answer S r c ≡ refused out_of_turn))
      × (¬ T (turns_allow (running S r) c) → (answer S r c ≡ refused out_of_turn) × (state S (c ∷ r) ≡ state S r))

  -- ---- accesses by the domain of their app

  -- some context of domain d holds the access's right on its page
  abbrev pub Permitted : ℕ → Access → Type 0
  Permitted d a =
      (address_of a < 16384)
      × ((j : ℕ) × T (has d j) × T (has (S.machine.field (right_of a) (page_of (address_of a))) j))

  abbrev pub Passes : Run → Access → Type 0
  Passes r a = (v : Reply) × (answer S r (app (access a)) ≡ accepted v)

  -- an access outside visits passes exactly when it is permitted to the domain of its app
  abbrev pub PassesExactly : Type 0
  PassesExactly =
      (r : Run) (X : Holder) → in_turn S r ≡ Some X → (a : Access) →
      (Passes r a → Permitted (domain_of S X) a) × (Permitted (domain_of S X) a → Passes r a)

  -- ---- the look-up

  -- app Y has slot t, and w stands at place i of its chain
  abbrev pub Stands : Run → ℕ → ℕ → Holder → ℕ → Type 0
  Stands r w t Y i = (holder S r t ≡ Some Y) × (place_of w (chain_of S Y) ≡ Some i)

  abbrev pub Lacks : Run → ℕ → ℕ → Type 0
  Lacks r w t = (Y : Holder) (i : ℕ) → ¬ Stands r w t Y i

  -- w finds place i of app Y, in slot t, for the app in slot s: its own chain comes first; if that lacks w, the lowest slot whose chain holds it
  abbrev pub Finds : Run → ℕ → ℕ → ℕ → Holder → ℕ → Type 0
  Finds r s w t Y i = Stands r w t Y i × ((t ≡ s) ⊎ (Lacks r w s × ((u : ℕ) → u < t → Lacks r w u)))

  -- activate answers the domain at the place that w finds, and is refused with 10 where no chain holds w
  abbrev pub LookedUp : Type 0
  LookedUp =
      (r : Run) (s : ℕ) → running S r ≡ Some s → (w : ℕ) →
      ((t : ℕ) (Y : Holder) (i : ℕ) → Finds r s w t Y i → answer S r (app (activate w)) ≡ accepted (value (slice_index Y.domains i)))
      × (((t : ℕ) → Lacks r w t) → answer S r (app (activate w)) ≡ refused (by_table 10 0))

  -- f is the fault of access number n under domain d
  abbrev pub Fault : ℕ → Access → ℕ → Reason → Type 0
  Fault d a n f = ((16384 ≤ address_of a) × (f ≡ by_unit 16 n)) ⊎ ((address_of a < 16384) × ¬ Permitted d a × (f ≡ by_unit 17 n))

  -- a visit of l ends after n accesses: there are no more, or the next has fault f
  abbrev pub EndsAt : ℕ → List Access → ℕ → Option Reason → Type 0
  EndsAt d l n None = n ≡ length l
  EndsAt d l n (Some f) = (a : Access) × (rest : List Access) × (drop n l ≡ a ∷ rest) × Fault d a n f

  -- with 18 or 19 a visit is refused before it opens anything: the list is too long, or the buffer too short
  abbrev pub Unopened : List Access → List ℕ → Reason → Type 0
  Unopened l b f = ((64 < length l) × (f ≡ by_turn 18 0)) ⊎ ((length b < length l) × (f ≡ by_turn 19 0))

  -- the answer to a visit of l with buffer b that works in domain d: the accesses made are permitted there, up to the first that is not
  abbrev pub WorksIn : ℕ → List Access → List ℕ → Answer → Type 0
  WorksIn d l b (refused f) = Unopened l b f
  WorksIn d l b (accepted done) = ⊥
  WorksIn d l b (accepted (value v)) = ⊥
  WorksIn d l b (accepted (visited n f b')) = All (Permitted d) (take n l) × EndsAt d l n f

  -- the answers to activate and to a visit with one password: the visit works in the domain that activate answers, or is refused alike
  abbrev pub AlikeFound : Answer → List Access → List ℕ → Answer → Type 0
  AlikeFound (refused f) l b (refused g) = (g ≡ f) ⊎ Unopened l b g
  AlikeFound (refused f) l b (accepted a) = ⊥
  AlikeFound (accepted done) l b v = ⊥
  AlikeFound (accepted (value d)) l b v = WorksIn d l b v
  AlikeFound (accepted (visited n f b')) l b v = ⊥

  -- activate and visit find alike
  abbrev pub OneLookUp : Type 0
  OneLookUp =
      (r : Run) (w : ℕ) (l : List Access) (b : List ℕ) →
      AlikeFound (answer S r (app (activate w))) l b (answer S r (app (visit w l b)))

  -- ---- all accesses that passed

  -- after r app Y lives, and its chain holds w
  abbrev pub HeldBy : Run → Holder → ℕ → Type 0
  HeldBy r Y w = (t : ℕ) × (holder S r t ≡ Some Y) × Holds (chain_of S Y) w

  -- some app's chain held the password when it was presented, and d lies within the creation domains of that app
  abbrev pub OpenedByPassword : ℕ → Option Presented → Type 0
  OpenedByPassword d None = ⊥
  OpenedByPassword d (Some o) = (Y : Holder) × HeldBy o.before Y o.password × Within d Y.who.creation_domains

  -- the access was permitted to its domain, and that lay within its app's creation domains or was opened by a password
  abbrev pub WasPermitted : Passed → Type 0
  WasPermitted p =
      Permitted p.domain p.what
      × (Within p.domain p.who.creation_domains ⊎ OpenedByPassword p.domain p.opened)

  abbrev pub AccessesWerePermitted : Type 0
  AccessesWerePermitted = (r : Run) → All WasPermitted (passed S r)

  -- each page is its boot state changed by the passed writes on it, in order
  abbrev pub PagesFollowPassedWrites : Type 0
  PagesFollowPassedWrites = (r : Run) (q : ℕ) → (state S r).pages q ≡ written S q (passed S r)

  -- ---- two runs that an app cannot tell apart

  -- X is an app of the run
  abbrev pub Created : App → Run → Type 0
  Created X r = Any (λ Y. X ≡ Y) (apps S r)

  -- X has slot s after r
  abbrev pub HasSlot : App → Run → ℕ → Type 0
  HasSlot X r s = (Y : Holder) × (holder S r s ≡ Some Y) × (Y.who ≡ X)

  -- a page that domains ds allow writing, and one that they allow reading or fetching
  abbrev pub Writable : List ℕ → ℕ → Type 0
  Writable ds q = Allow S.machine.field ds right.Write q

  abbrev pub Readable : List ℕ → ℕ → Type 0
  Readable ds q = (q < 64) × (Allow S.machine.field ds right.Read q ⊎ Allow S.machine.field ds right.Execute q)

  -- no other app of the run, whenever it lived, has creation domains that allow writing on a page that X's allow reading or fetching
  abbrev pub WritesApart : App → Run → Type 0
  WritesApart X r =
      All (λ Y. ¬ (Y ≡ X) → (q : ℕ) → Writable Y.creation_domains q → ¬ Readable X.creation_domains q) (apps S r)

  -- in run r the password o was presented, by an accepted call or by a refused one
  abbrev pub PresentedIn : Run → Presented → Type 0
  PresentedIn r o = (since : Run) × (q : Request) × (since ++ (app q ∷ o.before) ≡ r) × (presented q ≡ Some o.password)

  -- where app Z presents a password that app Y's chain holds: if Z is X, its own chain holds it too; if it is another, Y is not X
  abbrev pub PresentsApart : App → Run → Type 0
  PresentsApart X r =
      (o : Presented) → PresentedIn r o →
      (Z : Holder) → in_turn S o.before ≡ Some Z → (Y : Holder) → HeldBy o.before Y o.password →
      (Z.who ≡ X → Holds (chain_of S Z) o.password) × (¬ (Z.who ≡ X) → ¬ (Y.who ≡ X))

  -- what is compared of a run, in one list, so that the order counts: the executive's calls with their outcomes, and app n's calls
  unfoldable pub compared : ℕ → Run → List Compared
  compared n [] = []
  compared n (exec e ∷ r) = compared_of (executive_calls r == n) e (answer S r (exec e)) ∷ compared n r
  compared n (app q ∷ r) = cond (is_app n (in_turn S r)) (own q ∷ compared n r) (compared n r)

  -- the answers to app n's calls, the newest first
  unfoldable pub answers : ℕ → Run → List Answer
  answers n [] = []
  answers n (exec e ∷ r) = answers n r
  answers n (app q ∷ r) = cond (is_app n (in_turn S r)) (answer S r (app q) ∷ answers n r) (answers n r)

  -- the conditions on two runs with app X
  pub record Comparable (X : App) (r₁ r₂ : Run) : Type 0 where
    pub created : Created X r₁
    pub writes₁ : WritesApart X r₁
    pub writes₂ : WritesApart X r₂
    pub presents₁ : PresentsApart X r₁
    pub presents₂ : PresentsApart X r₂
    pub same_calls : compared X.create_number r₁ ≡ compared X.create_number r₂

  -- app X cannot tell the runs apart: not by its answers, its register, or the pages that its creation domains allow reading or fetching
  pub record Indistinguishable (X : App) (r₁ r₂ : Run) : Type 0 where
    pub same_answers : answers X.create_number r₁ ≡ answers X.create_number r₂
    pub same_register : (s : ℕ) → HasSlot X r₁ s → HasSlot X r₂ s × (register_of (state S r₁) s ≡ register_of (state S r₂) s)
    pub same_pages : (q : ℕ) → Readable X.creation_domains q → (state S r₁).pages q ≡ (state S r₂).pages q

  abbrev pub Noninterference : Type 0
  Noninterference = (X : App) (r₁ r₂ : Run) → Comparable X r₁ r₂ → Indistinguishable X r₁ r₂

  -- ---- a parameter that has an earlier value again

  abbrev pub passwords_in : Run → ℕ → List ℕ
  passwords_in r s = passwords_of ((state S r).slots s)

  -- slot s has the same app at both times, and the app the same parameter
  pub record SameParameter (earlier now : Run) (s : ℕ) : Type 0 where
    pub old : Holder
    pub new : Holder
    pub was : holder S earlier s ≡ Some old
    pub is : holder S now s ≡ Some new
    pub same_app : new.who ≡ old.who
    pub same_parameter : new.parameter ≡ old.parameter

  -- presented after r, v opens domain d: activate answers it and loads it, a visit works in it
  abbrev pub Opens : Run → ℕ → ℕ → Type 0
  Opens r v d =
      (answer S r (app (activate v)) ≡ accepted (value d))
      × ((state S (app (activate v) ∷ r)).register ≡ holding d)
      × ((l : List Access) (b : List ℕ) → WorksIn d l b (answer S r (app (visit v l b))))

  -- the slot has the same passwords again
  abbrev pub ChainReturns : Type 0
  ChainReturns =
      (earlier since : Run) (s : ℕ) → SameParameter earlier (since ++ earlier) s →
      passwords_in (since ++ earlier) s ≡ passwords_in earlier s

  -- a password that derive answered to the app from w and n opens the domain that now stands n places after the place that w had
  abbrev pub DerivedOpens : Type 0
  DerivedOpens =
      (earlier since : Run) (s w n v : ℕ) →
      let now : Run = since ++ (app (derive w n) ∷ earlier) in
      running S earlier ≡ Some s → answer S earlier (app (derive w n)) ≡ accepted (value v) →
      running S now ≡ Some s → (same : SameParameter earlier now s) →
      (i : ℕ) × (place_of w (chain_of S same.old) ≡ Some i) × Opens now v (slice_index same.new.domains (i + n))

  abbrev pub OldPasswordsReturn : Type 0
  OldPasswordsReturn = ChainReturns × DerivedOpens

  -- ---- the whole law, at one setting
  pub record Isolated : Type 0 where
    pub slots_follow_apps : SlotsFollowApps
    pub turns_have_apps : TurnsHaveApps
    pub answered : Answered
    pub passes_exactly : PassesExactly
    pub looked_up : LookedUp
    pub one_look_up : OneLookUp
    pub accesses_were_permitted : AccessesWerePermitted
    pub pages_follow_passed_writes : PagesFollowPassedWrites
    pub noninterference : Noninterference
    pub old_passwords_return : OldPasswordsReturn

-- the whole law, over every one-way function, every memory and every table of page fields
abbrev pub Isolation : Type 0
Isolation = (S : Setting) → Isolated S
