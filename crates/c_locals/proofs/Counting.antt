-- Scalars in the place of cells, one after another.
use Rattle.std.proofs.Common.{◌≡◌, ◌∙◌, ℕ, zero, suc, ◌+◌, ◌-◌, ◌<◌, ◌++◌, sym, ap, append_assoc, arith}
use Rattle.c_grammar.specs.Terminal.{Terminal}
use Rattle.c_grammar.specs.Texts.{Item}
use Rattle.c_grammar.specs.Blocks.{Items}
use Rattle.c_grammar.specs.Locals.{scalars}
use Rattle.c_locals.specs.Scalars.{scalar}

one_more : (i x : Item Terminal) (k n : ℕ) → 0 < n → scalars i x k n ≡ scalar i x k ++ scalars i x (k + 1) (n - 1)
one_more i x k zero h = absurd (omega (arith, h))
one_more i x k (suc n) h =
    let m : n ≡ suc n - 1 = omega arith in
    ap (λ (m : ℕ). scalar i x k ++ scalars i x (k + 1) m) m

pub next_cell : (i x : Item Terminal) (k l n : ℕ) (done more all : Items) → 0 < n → l ≡ k + 1 → more ≡ done ++ scalar i x k →
    done ++ scalars i x k n ≡ all → more ++ scalars i x l (n - 1) ≡ all
next_cell i x k l n done more all h e f g =
    ap (λ (js : Items). js ++ scalars i x l (n - 1)) f
    ∙ append_assoc done (scalar i x k) (scalars i x l (n - 1))
    ∙ ap (λ (m : ℕ). done ++ (scalar i x k ++ scalars i x m (n - 1))) e
    ∙ ap (λ (js : Items). done ++ js) (sym (one_more i x k n h)) ∙ g
