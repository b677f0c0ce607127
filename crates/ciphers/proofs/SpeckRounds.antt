-- One turn of the loop of Speck against the definitions.
use Rattle.std.proofs.Common.{◌≡◌, ℕ, ◌+◌, sym, ap, ◌∙◌, add-one}
use Rattle.ciphers.specs.Speck.{Keys, Words, round, next, schedule, rounds, words, number, encrypted}

pub schedule_more : (key now : Keys) (i : ℕ) (r : Words) → now ≡ schedule key i → r ≡ round i (now.l0, now.k)
    → ◌≡◌ {A = Keys} (record { l2 = r.0; l1 = now.l2; l0 = now.l1; k = r.1 }) (schedule key (i + 1))
unfolding schedule next
schedule_more key now i r e h =
    ap (λ (w : Words). let m : Keys = record { l2 = w.0; l1 = now.l2; l0 = now.l1; k = w.1 } in m) h ∙ ap (next i) e
    ∙ ap (schedule key) (sym (add-one i))

pub rounds_more : (key now : Keys) (b s r : Words) (i : ℕ) → now ≡ schedule key i → s ≡ rounds key b i → r ≡ round now.k s
    → r ≡ rounds key b (i + 1)
unfolding rounds
rounds_more key now b s r i e f h =
    h ∙ ap (λ (m : Keys). round m.k s) e ∙ ap (round (schedule key i).k) f ∙ ap (rounds key b) (sym (add-one i))

-- the key of two pairs of words
abbrev pub key : Words → Words → Keys
key h l = record { l2 = h.0; l1 = h.1; l0 = l.0; k = l.1 }

pub finished : (high low block i : ℕ) (h l b : Words) → h ≡ words high → l ≡ words low → b ≡ words block → i ≡ 27
    → number (rounds (key h l) b i) ≡ encrypted (key (words high) (words low)) block
unfolding encrypted
finished high low block i h l b eh el eb ei =
    ap (λ (n : ℕ). number (rounds (key h l) b n)) ei
    ∙ ap (λ (w : Words). number (rounds (key h l) w 27)) eb
    ∙ ap (λ (w : Words). number (rounds (key h w) (words block) 27)) el
    ∙ ap (λ (w : Words). number (rounds (key w (words low)) (words block) 27)) eh
