-- Copying the bytes between the lines of a text.
use Rattle.std.proofs.Common.{◌≡◌, ℕ, zero, suc, ◌+◌, ◌-◌, ◌≤◌, true, false, List, [], ◌∷◌, ◌++◌, length, take, drop, refl, sym, ap, subst, ◌∙◌, arith, append_assoc}
use Rattle.std.proofs.lemmas.List.{drop-drop, length-drop, take_all}
use Rattle.c_tokens.specs.declared.kind.Mood.TheVariants.{Fresh}
use Rattle.c_tokens.specs.declared.kind.Token.{Token}
use Rattle.c_tokens.specs.Text.{start, tokens_of}
use Rattle.erasure.specs.Erased.{is_taken, uncovered, erased_text}
use Rattle.erasure.proofs.Covered.{AreFrom, in_order, from_less, from_same, clear, keeps, drops, without_first, no_line, behind, within, all_kept}

-- the bytes before the first of these tokens
free : (bytes : List ℕ) (j k end : ℕ) (ts : List Token) (bs : List ℕ) → AreFrom (k + j) end ts →
    uncovered bytes ts k bs ≡ take j bs ++ uncovered bytes ts (k + j) (drop j bs)
free bytes zero k end ts bs a = let one : k ≡ k + 0 = omega arith in ap (λ (n : ℕ). uncovered bytes ts n bs) one
free bytes (suc j) k end ts [] a = refl
free bytes (suc j) k end ts (b ∷ bs) a =
    let one : k + 1 + j ≡ k + suc j = omega arith in
    keeps bytes ts k b bs (clear bytes k (k + suc j) end ts (omega arith) a)
    ∙ ap (λ (xs : List ℕ). b ∷ xs) (free bytes j (k + 1) end ts bs (subst (λ (n : ℕ). AreFrom n end ts) (sym one) a))
    ∙ ap (λ (n : ℕ). b ∷ (take j bs ++ uncovered bytes ts n (drop j bs))) one

-- the bytes of a line
gone : (bytes : List ℕ) (m k : ℕ) (t : Token) (ts : List Token) (bs : List ℕ) → is_taken bytes t ≡ true → t.first ≤ k →
    k + m ≤ t.last + 1 → uncovered bytes (t ∷ ts) k bs ≡ uncovered bytes (t ∷ ts) (k + m) (drop m bs)
gone bytes zero k t ts bs e f l = let one : k ≡ k + 0 = omega arith in ap (λ (n : ℕ). uncovered bytes (t ∷ ts) n bs) one
gone bytes (suc m) k t ts [] e f l = refl
gone bytes (suc m) k t ts (b ∷ bs) e f l =
    let one : k + 1 + m ≡ k + suc m = omega arith in
    drops bytes t ts k b bs (within bytes t k e f (omega (arith, l)))
    ∙ gone bytes m (k + 1) t ts bs e (omega (arith, f)) (omega (arith, l))
    ∙ ap (λ (n : ℕ). uncovered bytes (t ∷ ts) n (drop m bs)) one

-- the bytes up to a line, and those behind it
line_step : (k end : ℕ) (t : Token) (ts : List Token) (bytes : List ℕ) → is_taken bytes t ≡ true → AreFrom k end (t ∷ ts) →
    uncovered bytes (t ∷ ts) k (drop k bytes)
    ≡ take (t.first - k) (drop k bytes) ++ uncovered bytes ts (t.last + 1) (drop (t.last + 1) bytes)
line_step k end t ts bytes e a =
    let j : ℕ = t.first - k in
    let m : ℕ = t.last + 1 - t.first in
    let first : k + j ≡ t.first = omega (arith, a.0) in
    let last : t.first + m ≡ t.last + 1 = omega (arith, a.1) in
    let here : drop j (drop k bytes) ≡ drop t.first bytes = drop-drop j k bytes ∙ ap (λ (n : ℕ). drop n bytes) first in
    let there : drop m (drop t.first bytes) ≡ drop (t.last + 1) bytes =
    drop-drop m t.first bytes ∙ ap (λ (n : ℕ). drop n bytes) last in
    free bytes j k end (t ∷ ts) (drop k bytes) (subst (λ (n : ℕ). AreFrom n end (t ∷ ts)) (sym first) (from_start a))
    ∙ ap (λ (n : ℕ). take j (drop k bytes) ++ uncovered bytes (t ∷ ts) n (drop j (drop k bytes))) first
    ∙ ap (λ (xs : List ℕ). take j (drop k bytes) ++ uncovered bytes (t ∷ ts) t.first xs) here
    ∙ ap (λ (xs : List ℕ). take j (drop k bytes) ++ xs)
    (gone bytes m t.first t ts (drop t.first bytes) e (omega arith) (omega (arith, last))
    ∙ ap (λ (n : ℕ). uncovered bytes (t ∷ ts) n (drop m (drop t.first bytes))) last
    ∙ ap (λ (xs : List ℕ). uncovered bytes (t ∷ ts) (t.last + 1) xs) there
    ∙ without_first bytes t ts (t.last + 1) (drop (t.last + 1) bytes) (λ i u. behind bytes t i (omega (arith, u))))
  where
    from_start : AreFrom k end (t ∷ ts) → AreFrom t.first end (t ∷ ts)
    from_start a = (omega arith, a.1, a.2)

other_step : (bytes : List ℕ) (k : ℕ) (t : Token) (ts : List Token) (bs : List ℕ) → is_taken bytes t ≡ false →
    uncovered bytes (t ∷ ts) k bs ≡ uncovered bytes ts k bs
other_step bytes k t ts bs e = without_first bytes t ts k bs (λ j u. no_line bytes t j e)

-- what is copied, and what is still to be
pub record IsCopied (bytes kept : List ℕ) (k : ℕ) (ts : List Token) : Type 0 where
  pub text : kept ++ uncovered bytes ts k (drop k bytes) ≡ erased_text bytes
  pub order : AreFrom k (length bytes) ts

pub copy_starts : (bytes : List ℕ) (ts : List Token) → ts ≡ tokens_of bytes → IsCopied bytes [] 0 ts
unfolding erased_text
copy_starts bytes ts e =
    record {
      text = ap (λ (us : List Token). uncovered bytes us 0 bytes) e;
      order = subst (λ (us : List Token). AreFrom 0 (length bytes) us) (sym e)
          (from_same (start.at + 0) 0 (start.at + length bytes) (tokens_of bytes) (length bytes) (omega arith) (omega arith)
          (in_order bytes 0 Fresh start (omega arith)));
    }

-- a line is copied up to; the bytes go on behind it
pub copy_line : (bytes kept : List ℕ) (k : ℕ) (all : List Token) (t : Token) (ts : List Token) → all ≡ t ∷ ts →
    is_taken bytes t ≡ true → IsCopied bytes kept k all →
    IsCopied bytes (kept ++ take (t.first - k) (drop k bytes)) (t.last + 1) ts
copy_line bytes kept k all t ts same line d =
    let c : IsCopied bytes kept k (t ∷ ts) = subst (λ (us : List Token). IsCopied bytes kept k us) same d in
    record {
      text =
          append_assoc kept (take (t.first - k) (drop k bytes)) (uncovered bytes ts (t.last + 1) (drop (t.last + 1) bytes))
          ∙ ap (λ (xs : List ℕ). kept ++ xs) (sym (line_step k (length bytes) t ts bytes line c.order)) ∙ c.text;
      order = c.order.2;
    }

pub copy_other : (bytes kept : List ℕ) (k : ℕ) (all : List Token) (t : Token) (ts : List Token) → all ≡ t ∷ ts →
    is_taken bytes t ≡ false → IsCopied bytes kept k all → IsCopied bytes kept k ts
copy_other bytes kept k all t ts same h d =
    let c : IsCopied bytes kept k (t ∷ ts) = subst (λ (us : List Token). IsCopied bytes kept k us) same d in
    record {
      text = ap (λ (xs : List ℕ). kept ++ xs) (sym (other_step bytes k t ts (drop k bytes) h)) ∙ c.text;
      order = from_less k (t.last + 1) (length bytes) ts (omega (arith, c.order.0, c.order.1)) c.order.2;
    }

pub copy_ends : (bytes kept : List ℕ) (k : ℕ) (ts : List Token) → ts ≡ [] → IsCopied bytes kept k ts →
    kept ++ take (length bytes - k) (drop k bytes) ≡ erased_text bytes
copy_ends bytes kept k ts e c =
    let rest : take (length bytes - k) (drop k bytes) ≡ drop k bytes =
    take_all (length bytes - k) (drop k bytes) (omega (arith, length-drop k bytes)) in
    ap (λ (xs : List ℕ). kept ++ xs)
    (rest ∙ sym (all_kept bytes k (drop k bytes)) ∙ ap (λ (us : List Token). uncovered bytes us k (drop k bytes)) (sym e))
    ∙ c.text

ends : (end k : ℕ) (ts : List Token) → AreFrom k end ts → k ≤ end
ends end k [] a = a
ends end k (t ∷ ts) a = omega (arith, a.0, a.1, ends end (t.last + 1) ts a.2)

pub token_within : (bytes kept : List ℕ) (k : ℕ) (all : List Token) (t : Token) (ts : List Token) → all ≡ t ∷ ts →
    IsCopied bytes kept k all → (k ≤ t.first) × (t.first ≤ t.last) × (t.last + 1 ≤ length bytes)
token_within bytes kept k all t ts same d =
    let a : AreFrom k (length bytes) (t ∷ ts) = subst (λ (us : List Token). AreFrom k (length bytes) us) same d.order in
    (a.0, a.1, ends (length bytes) (t.last + 1) ts a.2)
