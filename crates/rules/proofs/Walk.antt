-- Each rule taken apart once: what holds of every refusal, and of what the rule accepts with, holds of its outcome.
use Rattle.std.proofs.Common.{◌≡◌, ℕ, ◌+◌, Bool, true, false, cond, ◌&&◌, T, ltb, leb, List, length, get_or, Some, None, Option, refl, ap, ◌∙◌, subst}
use Rattle.vocabulary.specs.declared.parameter.Parameter.{Parameter}
use Rattle.vocabulary.specs.declared.access.Access.{Access}
use Rattle.vocabulary.specs.declared.found.Found.{Found}
use Rattle.vocabulary.specs.Accesses.{address_of, right_of}
use Rattle.vocabulary.specs.Refusals.{Reason, by_table, by_unit, by_turn}
use Rattle.one_way.specs.Chains.{chain}
use Rattle.memory.specs.Pages.{page_of}
use Rattle.rules.specs.Calls.{with_slot, with_register, with_pages, with_chain, new_slot, create_rule, end_rule, turn_rule, activate_done, visit_found, is_master, revoke_asks, domain_put, request_rule, rule}
use Rattle.rules.specs.Console.{Machine, Register, Slot, Console, Request, activate, visit, grant, revoke, derive, rekey, access, app, Reply, done, value, Outcome, refuse, accept, out_of_turn, need, is_none}
use Rattle.rules.specs.Domains.{has, with_context, without_context, permits}
use Rattle.rules.specs.History.{presented}
use Rattle.rules.specs.LookUp.{place_of, first_repeat, look_up}
use Rattle.rules.specs.Visits.{fault_of, pages_after, reply_to}
use Rattle.rules.proofs.Cases.{ask_case, need_case, unless_case}
use Rattle.rules.proofs.Options.{some_injective, none_not_some}

-- the slot of a new app, and a slot after rekey
abbrev pub first_slot : (Parameter → ℕ → ℕ) → Parameter → ℕ → List ℕ → Slot
first_slot H p w ds = new_slot p (chain H p (length ds) w) ds

abbrev pub rekeyed : (Parameter → ℕ → ℕ) → Slot → ℕ → Parameter → Slot
rekeyed H σ w p = with_chain σ p (chain H p (length σ.passwords) w)

module _ (M : Machine) where
  fault_number : (d : ℕ) (a : Access) (i : ℕ) → fault_of M.field d a ≡ Some i → T (ltb 0 i)
  fault_number d a i e = go (ltb (address_of a) 16384) (permits M.field d (right_of a) (page_of (address_of a))) e
    where
      go : (x y : Bool) → cond {A = Option ℕ} x (cond {A = Option ℕ} y None (Some 17)) (Some 16) ≡ Some i → T (ltb 0 i)
      go true true e = absurd (none_not_some i e)
      go true false e = subst (λ j. T (ltb 0 j)) (some_injective 17 i e) tt
      go false y e = subst (λ j. T (ltb 0 j)) (some_injective 16 i e) tt

  -- refused with a number that is not 0
  module _ (P : Outcome → Type 0) (refuses : (f : Reason) → T (ltb 0 f.number) → P (refuse f)) where
    pub create_cases : (k : Console) (s : ℕ) (p : Parameter) (w : ℕ) (ds : List ℕ) →
        (T (ltb s 8) → first_repeat (chain M.way.H p (length ds) w) ≡ None → P (accept (with_slot k s (Some (first_slot M.way.H p w ds))) done)) →
        P (create_rule M.way k s p w ds)
    create_cases k s p w ds y =
        ask_case P (ltb s 8) (by_table 4 0) _ (refuses (by_table 4 0) tt) (λ h.
        ask_case P (is_none (k.slots s)) (by_table 5 0) _ (refuses (by_table 5 0) tt) (λ _.
        ask_case P (leb 1 (length ds) && leb (length ds) 8) (by_table 6 0) _ (refuses (by_table 6 0) tt) (λ _.
        ask_case P (leb p.high M.way.greatest) (by_table 7 0) _ (refuses (by_table 7 0) tt) (λ _.
        unless_case P (first_repeat (chain M.way.H p (length ds) w)) (by_table 8) _ (λ i _. refuses (by_table 8 i) tt) (y h)))))

    pub end_cases : (k : Console) (s : ℕ) → P (accept (with_slot k s None) done) → P (end_rule k s)
    end_cases k s y =
        ask_case P (ltb s 8) (by_table 4 0) _ (refuses (by_table 4 0) tt) (λ _.
        need_case P (k.slots s) (by_table 9 0) _ (refuses (by_table 9 0) tt) (λ σ e. y))

    pub turn_cases : (k : Console) (s : ℕ) →
        ((σ : Slot) → k.slots s ≡ Some σ → P (accept (record { slots = k.slots; register = σ.saved; turn_of = Some s; pages = k.pages }) done)) →
        P (turn_rule k s)
    turn_cases k s y =
        ask_case P (ltb s 8) (by_table 4 0) _ (refuses (by_table 4 0) tt) (λ _.
        need_case P (k.slots s) (by_table 9 0) _ (refuses (by_table 9 0) tt) y)

    -- what is left to show of an app's call
    abbrev pub Accepted : Console → ℕ → Slot → Request → Type 0
    Accepted k s σ (activate w) = (f : Found) → look_up k.slots s w ≡ Some f → P (activate_done k f)
    Accepted k s σ (visit w l b) = (f : Found) → look_up k.slots s w ≡ Some f → P (visit_found M k l b f)
    Accepted k s σ (grant w i c) = T (has (get_or σ.domains 0 0) c) → P (domain_put k s σ i (with_context (get_or σ.domains i 0) c))
    Accepted k s σ (revoke w i c) = P (domain_put k s σ i (without_context (get_or σ.domains i 0) c))
    Accepted k s σ (derive w n) =
        (i : ℕ) → place_of w σ.passwords ≡ Some i → T (ltb (i + n) (length σ.passwords)) → P (accept k (value (get_or σ.passwords (i + n) 0)))
    Accepted k s σ (rekey w p) =
        T (is_master σ w) → first_repeat (chain M.way.H p (length σ.passwords) w) ≡ None → P (accept (with_slot k s (Some (rekeyed M.way.H σ w p))) done)
    Accepted k s σ (access a) =
        fault_of M.field k.register.domain a ≡ None → P (accept (with_pages k (pages_after M.effect k.pages a)) (reply_to k.pages a))

    revoke_cases : (σ : Slot) (w i c : ℕ) (o : Outcome) → P o → P (revoke_asks σ w i c o)
    revoke_cases σ w i c o y =
        ask_case P (is_master σ w) (by_table 13 0) _ (refuses (by_table 13 0) tt) (λ _.
        ask_case P (leb 1 i && ltb i (length σ.passwords)) (by_table 12 0) _ (refuses (by_table 12 0) tt) (λ _.
        ask_case P (ltb c 16) (by_table 14 0) _ (refuses (by_table 14 0) tt) (λ _. y)))

    pub request_cases : (k : Console) (s : ℕ) (σ : Slot) (q : Request) → Accepted k s σ q → P (request_rule M k s σ q)
    request_cases k s σ (activate w) y = need_case P (look_up k.slots s w) (by_table 10 0) _ (refuses (by_table 10 0) tt) y
    request_cases k s σ (visit w l b) y =
        ask_case P (leb (length l) 64) (by_turn 18 0) _ (refuses (by_turn 18 0) tt) (λ _.
        ask_case P (leb (length l) (length b)) (by_turn 19 0) _ (refuses (by_turn 19 0) tt) (λ _.
        need_case P (look_up k.slots s w) (by_table 10 0) _ (refuses (by_table 10 0) tt) y))
    request_cases k s σ (grant w i c) y =
        revoke_cases σ w i c _ (ask_case P (has (get_or σ.domains 0 0) c) (by_table 15 i) _ (refuses (by_table 15 i) tt) y)
    request_cases k s σ (revoke w i c) y = revoke_cases σ w i c _ y
    request_cases k s σ (derive w n) y =
        need_case P (place_of w σ.passwords) (by_table 11 0) _ (refuses (by_table 11 0) tt) (λ i e.
        ask_case P (ltb (i + n) (length σ.passwords)) (by_table 12 0) _ (refuses (by_table 12 0) tt) (y i e))
    request_cases k s σ (rekey w p) y =
        ask_case P (is_master σ w) (by_table 13 0) _ (refuses (by_table 13 0) tt) (λ h.
        ask_case P (leb p.high M.way.greatest) (by_table 7 0) _ (refuses (by_table 7 0) tt) (λ _.
        unless_case P (first_repeat (chain M.way.H p (length σ.passwords) w)) (by_table 8) _ (λ i _. refuses (by_table 8 i) tt) (y h)))
    request_cases k s σ (access a) y =
        unless_case P (fault_of M.field k.register.domain a) (λ n. by_unit n 0) _
        (λ i e. refuses (by_unit i 0) (fault_number k.register.domain a i e)) y

    -- an accepted call of an app replaces the register or its own slot, makes accesses, or changes nothing
    pub request_parts : (k : Console) (s : ℕ) (σ : Slot) (q : Request) →
        ((g : Register) (a : Reply) → P (accept (with_register k g) a)) →
        ((σ' : Slot) (a : Reply) → P (accept (with_slot k s (Some σ')) a)) →
        ((a : Reply) → P (accept k a)) →
        ((w : ℕ) (l : List Access) (b : List ℕ) (f : Found) → presented q ≡ Some w → look_up k.slots s w ≡ Some f → P (visit_found M k l b f)) →
        ((a : Access) → fault_of M.field k.register.domain a ≡ None → P (accept (with_pages k (pages_after M.effect k.pages a)) (reply_to k.pages a))) →
        P (request_rule M k s σ q)
    request_parts k s σ (activate w) g x n v m = request_cases k s σ (activate w) (λ f _. g _ _)
    request_parts k s σ (visit w l b) g x n v m = request_cases k s σ (visit w l b) (λ f e. v w l b f refl e)
    request_parts k s σ (grant w i c) g x n v m = request_cases k s σ (grant w i c) (λ _. x _ _)
    request_parts k s σ (revoke w i c) g x n v m = request_cases k s σ (revoke w i c) (x _ _)
    request_parts k s σ (derive w i) g x n v m = request_cases k s σ (derive w i) (λ _ _ _. n _)
    request_parts k s σ (rekey w p) g x n v m = request_cases k s σ (rekey w p) (λ _ _. x _ _)
    request_parts k s σ (access a) g x n v m = request_cases k s σ (access a) (m a)

  -- ---- the rule of an app's call, in its turn
  pub app_rule : (k : Console) (s : ℕ) (σ : Slot) (q : Request) → k.turn_of ≡ Some s → k.slots s ≡ Some σ → rule M k (app q) ≡ request_rule M k s σ q
  app_rule k s σ q e h =
      ap (λ o. need o out_of_turn (λ s. need (k.slots s) out_of_turn (λ σ. request_rule M k s σ q))) e
      ∙ ap (λ o. need o out_of_turn (λ σ. request_rule M k s σ q)) h

  pub activate_is : (k : Console) (s : ℕ) (σ : Slot) → k.turn_of ≡ Some s → k.slots s ≡ Some σ →
      (w : ℕ) (x : Option Found) → look_up k.slots s w ≡ x → rule M k (app (activate w)) ≡ need x (by_table 10 0) (λ f. activate_done k f)
  activate_is k s σ e h w x l = app_rule k s σ (activate w) e h ∙ ap (λ x. need x (by_table 10 0) (λ f. activate_done k f)) l
