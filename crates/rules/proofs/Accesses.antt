-- Accesses that passed were permitted, and pages change by passed writes alone.
use Rattle.std.proofs.Common.{◌≡◌, ℕ, suc, cond, ◌⊎◌, List, [], ◌∷◌, take, Some, None, Option, sym, refl, ap, ◌∙◌, subst, inr}
use Rattle.vocabulary.specs.declared.access.Access.{Access}
use Rattle.vocabulary.specs.declared.access.Access.TheVariants.{Read, Write, Fetch}
use Rattle.vocabulary.specs.declared.found.Found.{Found}
use Rattle.vocabulary.specs.Refusals.{Reason}
use Rattle.memory.specs.Pages.{Page, page_of, offset_of}
use Rattle.rules.specs.Calls.{visit_found, executive_rule, request_rule, rule}
use Rattle.rules.specs.Console.{Setting, Register, Slot, Executive, create, end, turn, close, Request, activate, visit, grant, revoke, derive, rekey, access, exec, app, refused, Outcome, answer_of, after, out_of_turn, need}
use Rattle.rules.specs.Domains.{Within}
use Rattle.rules.specs.History.{App, Presented, Holder, Passed, number_in, at_slot, onto, holder, found, domain_of, passed_by, passed_in, passed, written_by, written}
use Rattle.rules.specs.Isolation.{register_of, OpenedByPassword, WasPermitted, AccessesWerePermitted, PagesFollowPassedWrites}
use Rattle.rules.specs.Lists.{All}
use Rattle.rules.specs.LookUp.{look_up, domain_at}
use Rattle.rules.specs.Runs.{Run, state, answer}
use Rattle.rules.specs.Visits.{byte_of, Visit, made_first, unless_fault}
use Rattle.rules.proofs.Cases.{need_case}
use Rattle.memory.proofs.Entries.{everywhere}
use Rattle.rules.proofs.Faults.{faults, visits, writes, permitted}
use Rattle.rules.proofs.Search.{look_some}
use Rattle.rules.proofs.Sound.{console, register_own, Fits, owner, turn_same, sound, holds}
use Rattle.rules.proofs.Walk.{create_cases, end_cases, turn_cases, request_cases, activate_is}

module _ (S : Setting) where
  pub one_write : (m : ℕ → Page) (a : Access) (q : ℕ) → writes S m a q ≡ written_by S q a (m q)
  one_write m (Read a) q = refl
  one_write m (Write a b) q =
      everywhere (page_of a) (λ t x. cond x (S.machine.effect (page_of a) (m (page_of a)) (offset_of a) b) (m t) ≡ cond x (S.machine.effect t (m t) (offset_of a) b) (m t))
      refl (λ t _. refl) q
  one_write m (Fetch a) q = refl

  -- the accesses ps were permitted, and led to the pages m
  Good : List Passed → (ℕ → Page) → Type 0
  Good ps m = All (WasPermitted S) ps × ((q : ℕ) → m q ≡ written S q ps)

  module _ (X : App) (d : ℕ) (o : Option Presented) (lawful : Within d X.creation_domains ⊎ OpenedByPassword S d o) where
    one_access : (a : Access) (m : ℕ → Page) (ps : List Passed) → faults S d a ≡ None →
        Good ps m → Good (record { what = a; who = X; domain = d; opened = o } ∷ ps) (writes S m a)
    unfolding Good
    one_access a m ps e h = (((permitted S d a e, lawful), h.0), λ q. one_write m a q ∙ ap (written_by S q a) (h.1 q))

    visit_good : (l : List Access) (m : ℕ → Page) (i : ℕ) (ps : List Passed) → Good ps m → Good (onto X d o (take (visits S l d m i).made l) ps) (visits S l d m i).left
    visit_good [] m i ps h = h
    visit_good (a ∷ l) m i ps h =
        go (visit_good l (writes S m a) (suc i) (record { what = a; who = X; domain = d; opened = o } ∷ ps)) (faults S d a) refl
      where
        rest : Visit
        rest = visits S l d (writes S m a) (suc i)

        go : (Good (record { what = a; who = X; domain = d; opened = o } ∷ ps) (writes S m a) →
            Good (onto X d o (take rest.made l) (record { what = a; who = X; domain = d; opened = o } ∷ ps)) rest.left) →
            (x : Option ℕ) → faults S d a ≡ x →
            Good (onto X d o (take (unless_fault x i m (made_first (byte_of m a) rest)).made (a ∷ l)) ps) (unless_fault x i m (made_first (byte_of m a) rest)).left
        go ih None e = ih (one_access a m ps e h)
        go ih (Some n) e = h

  -- ---- the executive changes no page
  pub exec_pages : (sl : ℕ → Option Slot) (g : Register) (o : Option ℕ) (m : ℕ → Page) (e : Executive) → (after (console sl g o m) (executive_rule S.machine (console sl g o m) e)).pages ≡ m
  exec_pages sl g None m (create s p w ds) = create_cases S.machine (λ x. (after (console sl g None m) x).pages ≡ m) (λ f _. refl) (console sl g None m) s p w ds (λ _ _. refl)
  exec_pages sl g None m (end s) = end_cases S.machine (λ x. (after (console sl g None m) x).pages ≡ m) (λ f _. refl) (console sl g None m) s refl
  exec_pages sl g None m (turn s) = turn_cases S.machine (λ x. (after (console sl g None m) x).pages ≡ m) (λ f _. refl) (console sl g None m) s (λ σ _. refl)
  exec_pages sl g None m close = refl
  exec_pages sl g (Some u) m (create s p w ds) = refl
  exec_pages sl g (Some u) m (end s) = refl
  exec_pages sl g (Some u) m (turn s) = refl
  exec_pages sl g (Some u) m close = need_case (λ x. (after (console sl g (Some u) m) x).pages ≡ m) (sl u) out_of_turn _ refl (λ σ e. refl)

  -- ---- one call of the app in turn
  module _ (r : Run) (s : ℕ) (σ : Slot) (X : Holder) (turned : (state S r).turn_of ≡ Some s) (hσ : (state S r).slots s ≡ Some σ) (F : Fits S σ X (register_of (state S r) s))
      (ps : List Passed) (good : Good ps (state S r).pages) where
    P : Request → Outcome → Type 0
    P q o = Good (passed_by S r q (answer_of o) X ps) (after (state S r) o).pages

    visit_passed : (w : ℕ) (l : List Access) (b : List ℕ) (f : Found) → look_up (state S r).slots s w ≡ Some f →
        P (visit w l b) (visit_found S.machine (state S r) l b f)
    unfolding P found answer
    visit_passed w l b f e =
        let z = owner S (state S r) (holder S r) (sound S r) w f (look_some (state S r).slots w s f e) in
        let o : Presented = record { before = r; password = w } in
        let d : ℕ = domain_at (state S r).slots f.slot f.place in
        let v : Visit = visits S l d (state S r).pages 0 in
        let found_is : found S r w ≡ d = ap (λ o. number_in (answer_of o)) (activate_is S.machine (state S r) s σ turned hσ w (Some f) e) in
        subst (λ d'. Good (onto X.who d' (Some o) (take v.made l) ps) v.left) (sym found_is)
        (visit_good X.who d (Some o) (inr (z.0, (f.slot, z.1, z.2), z.3)) l (state S r).pages 0 ps good)

    request_pass : (q : Request) → Good (passed_by S r q (answer_of (request_rule S.machine (state S r) s σ q)) X ps) (after (state S r) (request_rule S.machine (state S r) s σ q)).pages
    unfolding P
    request_pass (activate w) = request_cases S.machine (P (activate w)) (λ f _. good) (state S r) s σ (activate w) (λ f e. good)
    request_pass (visit w l b) = request_cases S.machine (P (visit w l b)) (λ f _. good) (state S r) s σ (visit w l b) (visit_passed w l b)
    request_pass (grant w i c) = request_cases S.machine (P (grant w i c)) (λ f _. good) (state S r) s σ (grant w i c) (λ _. good)
    request_pass (revoke w i c) = request_cases S.machine (P (revoke w i c)) (λ f _. good) (state S r) s σ (revoke w i c) good
    request_pass (derive w n) = request_cases S.machine (P (derive w n)) (λ f _. good) (state S r) s σ (derive w n) (λ i _ _. good)
    request_pass (rekey w p) = request_cases S.machine (P (rekey w p)) (λ f _. good) (state S r) s σ (rekey w p) (λ _ _. good)
    request_pass (access a) =
        request_cases S.machine (P (access a)) (λ f _. good) (state S r) s σ (access a) (λ e.
        one_access X.who (domain_of S X) X.opened F.lawful a (state S r).pages ps
        (subst (λ d. faults S d a ≡ None) (ap (λ g. g.domain) (sym (register_own (state S r) s turned)) ∙ F.register) e) good)

  refused_pass : (r : Run) (q : Request) (f : Reason) (x : Option Holder) (ps : List Passed) (m : ℕ → Page) → Good ps m → Good (passed_in S r q (refused f) x ps) m
  refused_pass r q f None ps m h = h
  refused_pass r q f (Some X) ps m h = h

  app_pass : (r : Run) (q : Request) (ps : List Passed) → Good ps (state S r).pages →
      Good (passed_in S r q (answer_of (rule S.machine (state S r) (app q))) (at_slot (holder S r) (state S r).turn_of) ps) (after (state S r) (rule S.machine (state S r) (app q))).pages
  app_pass r q ps good =
      need_case (λ o. Good (passed_in S r q (answer_of o) (at_slot (holder S r) (state S r).turn_of) ps) (after (state S r) o).pages) (state S r).turn_of out_of_turn _
      (refused_pass r q out_of_turn (at_slot (holder S r) (state S r).turn_of) ps (state S r).pages good)
      (λ s e. subst (λ o. Good (passed_in S r q (answer_of (in_slot s)) (at_slot (holder S r) o) ps) (after (state S r) (in_slot s)).pages) (sym e)
      (need_case (λ o. Good (passed_in S r q (answer_of o) (holder S r s) ps) (after (state S r) o).pages) ((state S r).slots s) out_of_turn _
      (refused_pass r q out_of_turn (holder S r s) ps (state S r).pages good)
      (λ σ h.
      let z = holds S r s σ h in
      subst (λ x. Good (passed_in S r q (answer_of (request_rule S.machine (state S r) s σ q)) x ps) (after (state S r) (request_rule S.machine (state S r) s σ q)).pages) (sym z.1)
      (request_pass r s σ z.0 e h z.2 ps good q))))
    where
      in_slot : ℕ → Outcome
      in_slot s = need ((state S r).slots s) out_of_turn (λ σ. request_rule S.machine (state S r) s σ q)

  good_run : (r : Run) → Good (passed S r) (state S r).pages
  unfolding Good state passed answer
  good_run [] = (tt, λ q. refl)
  good_run (exec e ∷ r) =
      subst (λ m. Good (passed S r) m) (sym (exec_pages (state S r).slots (state S r).register (state S r).turn_of (state S r).pages e)) (good_run r)
  good_run (app q ∷ r) =
      subst (λ o. Good (passed_in S r q (answer S r (app q)) (at_slot (holder S r) o) (passed S r)) (state S (app q ∷ r)).pages) (turn_same S r)
      (app_pass r q (passed S r) (good_run r))

  pub accesses_were_permitted : AccessesWerePermitted S
  unfolding Good
  accesses_were_permitted r = (good_run r).0

  pub pages_follow_passed_writes : PagesFollowPassedWrites S
  unfolding Good
  pages_follow_passed_writes r = (good_run r).1
