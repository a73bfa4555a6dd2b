-- Arrays of two dimensions and of three are written out without a look at the lines of the tokens.
use Rattle.std.proofs.Common.{◌≡◌, ◌∙◌, ℕ, zero, suc, ◌+◌, ◌*◌, Bool, true, false, cond, List, [], ◌∷◌, ◌++◌, take, drop, map, Option, Some, None, refl, sym, ap}
use Rattle.std.specs.Prelude.{◌&&◌, ◌||◌, is_some, not}
use Rattle.c_tokens.specs.declared.kind.Sign.TheVariants as sign
use Rattle.c_grammar.specs.Lexeme.{Uint64}
use Rattle.c_grammar.specs.Terminal.{Terminal, Fixed, Mark, Name, Num, Line, Unknown, Unworked, End, same}
use Rattle.c_grammar.specs.Texts.{Item}
use Rattle.c_grammar.specs.Blocks.{Items, at, bare, is_directive}
use Rattle.c_grammar.specs.Changes.{is_mark}
use Rattle.c_grammar.specs.Constants.{with_tokens}
use Rattle.c_grammar.specs.Expressions.{placed_of, value_of}
use Rattle.c_grammar.specs.Lines.{is_omp}
use Rattle.c_grammar.specs.Functions.{index_len}
use Rattle.c_grammar.specs.Grids.{Declared, Elsewhere, Grids, Index, OnOperand, Onward, Open, Range, Ranges, added_on, closing_on, declared, declared_as, declared_on, flat, flat_declaration, flat_line, flat_on, grid_on, has_second, in_rows, index, index_from, index_in, is_row, len_below, loop_range, named_on, named_range, operand, opens_index, operator_on, product, range, row_begins, row_ends, second_len, token_on, with_product, with_range}
use Rattle.same_text.specs.Laws.{unlined}
use Rattle.same_text.proofs.Unlined.{AreUnlined, all_unlined, bare_unlined, either, one, some}
use Rattle.same_text.proofs.UnlinedCalls.{index_same}
use Rattle.same_text.proofs.UnlinedPassed.{drop_unlined, take_unlined}

picked : (b : Bool) (x y x' y' : Option Index) → x' ≡ x → y' ≡ y → cond b x' y' ≡ cond b x y
picked true x y x' y' e f = e
picked false x y x' y' e f = f

-- what is asked of the next tokens

operator_unlined : (rs : Ranges) (s : Range) (minus : Bool) (p : Range) (k : ℕ) (o i : Item Terminal) (go go' : OnOperand) →
    ((s : Range) (minus : Bool) (p : Range) → go' s minus p ≡ go s minus p) →
    operator_on rs s minus p k (unlined o) (unlined i) go' ≡ operator_on rs s minus p k o i go
operator_unlined rs s minus p k o i go go' r =
    picked (is_mark sign.Star o) _ _ _ _ (r s minus (product p (operand rs i.terminal)))
    (picked (is_mark sign.Plus o) _ _ _ _ (r (with_product minus s p) false (operand rs i.terminal))
    (picked (is_mark sign.Minus o) _ _ _ _ (r (with_product minus s p) true (operand rs i.terminal)) refl))

index_from_unlined : (rs : Ranges) (is : Items) (s : Range) (minus : Bool) (p : Range) (k : ℕ) →
    index_from rs s minus p k (all_unlined is) ≡ index_from rs s minus p k is
unfolding index_from
index_from_unlined rs [] s minus p k = refl
index_from_unlined rs (o ∷ []) s minus p k = refl
index_from_unlined rs (o ∷ i ∷ is) s minus p k =
    ap (λ (x : Option Index). cond (is_mark sign.CloseBracket o) (index k (with_product minus s p)) x)
    (operator_unlined rs s minus p k o i (λ s minus p. index_from rs s minus p (k + 2) is)
    (λ s minus p. index_from rs s minus p (k + 2) (all_unlined is)) (λ s minus p. index_from_unlined rs is s minus p (k + 2)))

index_unlined : (rs : Ranges) (is : Items) → index_in rs (all_unlined is) ≡ index_in rs is
index_unlined rs [] = refl
index_unlined rs (i ∷ is) = index_from_unlined rs is (range 0 0) false (operand rs i.terminal) 1

second_unlined : (rs : Ranges) (m : ℕ) (is : Items) → second_len rs m (all_unlined is) ≡ second_len rs m is
second_unlined rs m [] = refl
second_unlined rs m (o ∷ is) =
    ap (λ (x : Option Index). cond (is_mark sign.OpenBracket o) (len_below m x) None) (index_unlined rs is)

loop_unlined : (is : Items) → loop_range (all_unlined is) ≡ loop_range is
loop_unlined [] = refl
loop_unlined (x ∷ []) = refl
loop_unlined (x ∷ e ∷ []) = refl
loop_unlined (x ∷ e ∷ a ∷ []) = refl
loop_unlined (x ∷ e ∷ a ∷ s ∷ []) = refl
loop_unlined (x ∷ e ∷ a ∷ s ∷ y ∷ []) = refl
loop_unlined (x ∷ e ∷ a ∷ s ∷ y ∷ l ∷ []) = refl
loop_unlined (x ∷ e ∷ a ∷ s ∷ y ∷ l ∷ b ∷ is) = refl

range_unlined : (is : Items) (rs : Ranges) → with_range (all_unlined is) rs ≡ with_range is rs
range_unlined [] rs = refl
range_unlined (x ∷ is) rs = ap (λ (r : Range). named_range r rs x.terminal) (loop_unlined (x ∷ is))

opens_unlined : (is : Items) → opens_index (all_unlined is) ≡ opens_index is
opens_unlined [] = refl
opens_unlined (i ∷ is) = refl

declared_unlined : (deep : Bool) (is : Items) → declared deep (all_unlined is) ≡ declared deep is
declared_unlined deep [] = refl
declared_unlined deep (x ∷ []) = refl
declared_unlined deep (x ∷ o ∷ []) = refl
declared_unlined deep (x ∷ o ∷ n ∷ []) = refl
declared_unlined deep (x ∷ o ∷ n ∷ c ∷ []) = refl
declared_unlined deep (x ∷ o ∷ n ∷ c ∷ p ∷ []) = refl
declared_unlined deep (x ∷ o ∷ n ∷ c ∷ p ∷ m ∷ []) = refl
declared_unlined deep (x ∷ o ∷ n ∷ c ∷ p ∷ m ∷ d ∷ is) =
    ap (λ (b : Bool). cond (is_mark sign.OpenBracket o && is_mark sign.CloseBracket c && is_mark sign.OpenBracket p &&
    is_mark sign.CloseBracket d && (not deep || b)) (declared_as x.terminal n.terminal m.terminal) None) (opens_unlined is)

declaration_unlined : (cells : ℕ) (is : Items) → AreUnlined (flat_declaration cells (all_unlined is)) (flat_declaration cells is)
declaration_unlined cells [] = refl
declaration_unlined cells (x ∷ []) = refl
declaration_unlined cells (x ∷ o ∷ []) = refl
declaration_unlined cells (x ∷ o ∷ n ∷ []) = refl
declaration_unlined cells (x ∷ o ∷ n ∷ c ∷ is) = refl

-- one token after another

abbrev AreSame : Onward → Onward → Type 0
AreSame go' go = (gs : Grids) (rs : Ranges) (os : Open) (k : ℕ) → AreUnlined (go' gs rs os k) (go gs rs os k)

declared_same : (gs : Grids) (rs : Ranges) (os : Open) (i : Item Terminal) (is : Items) (d : Option Declared) (go go' : Onward) →
    AreSame go' go → AreUnlined (declared_on gs rs os (unlined i) (all_unlined is) d go') (declared_on gs rs os i is d go)
declared_same gs rs os i is None go go' r =
    ap (λ (ps : Ranges). unlined i ∷ go' gs ps os 0) (range_unlined is rs) ∙ one i _ _ (r gs (with_range is rs) os 0)
declared_same gs rs os i is (Some d) go go' r =
    one i _ _ (some (flat_declaration (d.rows * d.columns) is) (flat_declaration (d.rows * d.columns) (all_unlined is)) _ _
    (declaration_unlined (d.rows * d.columns) is) (r _ _ _ _))

has_unlined : (rs : Ranges) (m : ℕ) (is : Items) (k : Option ℕ) → has_second rs m (all_unlined is) k ≡ has_second rs m is k
has_unlined rs m is None = refl
has_unlined rs m is (Some k) =
    ap (λ (js : Items). is_some (second_len rs m js)) (drop_unlined k is) ∙ ap is_some (second_unlined rs m (drop k is))

row_unlined : (is : Items) (o : Option ℕ) → is_row (all_unlined is) o ≡ is_row is o
row_unlined is None = refl
row_unlined is (Some k) =
    ap (λ (js : Items). not (opens_index js)) (drop_unlined k is) ∙ ap not (opens_unlined (drop k is))

grid_same : (deep : Bool) (gs : Grids) (rs : Ranges) (os : Open) (i : Item Terminal) (is : Items) (m : Option ℕ) (go go' : Onward) →
    AreSame go' go → AreUnlined (grid_on deep gs rs os (unlined i) (all_unlined is) m go')
    (grid_on deep gs rs os i is m go)
grid_same deep gs rs os i [] m go go' r = one i _ _ (r _ _ _ _)
grid_same deep gs rs os i (o ∷ is) None go go' r = one i _ _ (r _ _ _ _)
grid_same deep gs rs os i (o ∷ is) (Some m) go go' r =
    either (is_mark sign.OpenBracket o && has_second rs m (o ∷ is) (index_len 0 0 (o ∷ is))) _ _ _ _ _
    (ap (λ (b : Bool). is_mark sign.OpenBracket o && b)
    (ap (λ (k : Option ℕ). has_second rs m (all_unlined (o ∷ is)) k) (index_same (o ∷ is) 0 0)
    ∙ has_unlined rs m (o ∷ is) (index_len 0 0 (o ∷ is))))
    (one i (row_begins m o ++ go gs rs (Some m ∷ os) 1) _
    (some (row_begins m o) (row_begins m (unlined o)) (go gs rs (Some m ∷ os) 1) (go' gs rs (Some m ∷ os) 1) refl (r _ _ _ _)))
    (either (is_mark sign.OpenBracket o && (deep || is_row (o ∷ is) (index_len 0 0 (o ∷ is)))) _ _ _ _ _
    (ap (λ (b : Bool). is_mark sign.OpenBracket o && (deep || b))
    (ap (λ (k : Option ℕ). is_row (all_unlined (o ∷ is)) k) (index_same (o ∷ is) 0 0)
    ∙ row_unlined (o ∷ is) (index_len 0 0 (o ∷ is))))
    (one i (i ∷ go gs rs os 0) _ (one i (go gs rs os 0) (go' gs rs os 0) (r _ _ _ _))) (one i _ _ (r _ _ _ _)))

named_same : (deep : Bool) (gs : Grids) (rs : Ranges) (os : Open) (i : Item Terminal) (t : Terminal) (is : Items) (go go' : Onward) →
    AreSame go' go → AreUnlined (named_on deep gs rs os (unlined i) t (all_unlined is) go')
    (named_on deep gs rs os i t is go)
named_same deep gs rs os i (Name x) is go go' r = grid_same deep gs rs os i is (value_of gs x) go go' r
named_same deep gs rs os i (Line ts) is go go' r = one i _ _ (r _ _ _ _)
named_same deep gs rs os i (Fixed w) is go go' r = one i _ _ (r _ _ _ _)
named_same deep gs rs os i (Mark s) is go go' r = one i _ _ (r _ _ _ _)
named_same deep gs rs os i (Num n) is go go' r = one i _ _ (r _ _ _ _)
named_same deep gs rs os i Unknown is go go' r = one i _ _ (r _ _ _ _)
named_same deep gs rs os i Unworked is go go' r = one i _ _ (r _ _ _ _)
named_same deep gs rs os i End is go go' r = one i _ _ (r _ _ _ _)

ends_unlined : (i : Item Terminal) (k : ℕ) (is : Items) → AreUnlined (row_ends (unlined i) k (all_unlined is)) (row_ends i k is)
ends_unlined i k is =
    ap (λ (js : Items). at (unlined i) (Mark sign.CloseParen) ∷ at (unlined i) (Mark sign.Plus) ∷
    at (unlined i) (Mark sign.OpenParen) ∷ js)
    (some (take k (drop 1 is)) (take k (drop 1 (all_unlined is))) (at i (Mark sign.CloseParen) ∷ i ∷ []) _
    (ap (take k) (drop_unlined 1 is) ∙ take_unlined k (drop 1 is)) refl)

added_same : (gs : Grids) (rs : Ranges) (os : Open) (i : Item Terminal) (is : Items) (k : Option ℕ) (go go' : Onward) →
    AreSame go' go → AreUnlined (added_on gs rs os (unlined i) (all_unlined is) k go') (added_on gs rs os i is k go)
added_same gs rs os i is None go go' r = one i _ _ (r _ _ _ _)
added_same gs rs os i is (Some k) go go' r =
    some (row_ends i k is) (row_ends (unlined i) k (all_unlined is)) _ _ (ends_unlined i k is) (r _ _ _ _)

closing_same : (gs : Grids) (rs : Ranges) (os : Open) (i : Item Terminal) (is : Items) (go go' : Onward) →
    AreSame go' go → AreUnlined (closing_on gs rs os (unlined i) (all_unlined is) go') (closing_on gs rs os i is go)
closing_same gs rs [] i is go go' r = one i _ _ (r _ _ _ _)
closing_same gs rs (None ∷ os) i is go go' r = one i _ _ (r _ _ _ _)
closing_same gs rs (Some m ∷ os) i is go go' r =
    ap (λ (k : Option ℕ). added_on gs rs os (unlined i) (all_unlined is) k go') (second_unlined rs m is)
    ∙ added_same gs rs os i is (second_len rs m is) go go' r

token_same : (deep : Bool) (gs : Grids) (rs : Ranges) (os : Open) (i : Item Terminal) (is : Items) (go go' : Onward) →
    AreSame go' go → AreUnlined (token_on deep gs rs os (unlined i) (all_unlined is) go')
    (token_on deep gs rs os i is go)
token_same deep gs rs os i is go go' r =
    either (same (Fixed Uint64) i.terminal) _ _ _ _ _ refl
    (ap (λ (d : Option Declared). declared_on gs rs os (unlined i) (all_unlined is) d go') (declared_unlined deep is)
    ∙ declared_same gs rs os i is (declared deep is) go go' r)
    (either (is_mark sign.OpenBracket i) _ _ _ _ _ refl (one i _ _ (r _ _ _ _))
    (either (is_mark sign.CloseBracket i) _ _ _ _ _ refl (closing_same gs rs os i is go go' r)
    (named_same deep gs rs os i i.terminal is go go' r)))

on_same : (deep : Bool) (k : ℕ) (gs : Grids) (rs : Ranges) (os : Open) (i : Item Terminal) (is : Items) (go go' : Onward) →
    AreSame go' go → AreUnlined (flat_on deep gs rs os k (unlined i) (all_unlined is) go')
    (flat_on deep gs rs os k i is go)
on_same deep zero gs rs os i is go go' r = token_same deep gs rs os i is go go' r
on_same deep (suc k) gs rs os i is go go' r = r _ _ _ _

row_line_unlined : (gs : Grids) (i : Item Terminal) (t : Terminal) →
    flat_line gs (unlined i) t ≡ unlined (flat_line gs i t)
row_line_unlined gs i (Line ts) = go (is_omp ts)
  where
    go : (b : Bool) → cond b (with_tokens (unlined i) ts (in_rows gs Elsewhere (placed_of ts i.columns))) (unlined i)
        ≡ unlined (cond b (with_tokens i ts (in_rows gs Elsewhere (placed_of ts i.columns))) i)
    go true = refl
    go false = refl
row_line_unlined gs i (Fixed w) = refl
row_line_unlined gs i (Mark s) = refl
row_line_unlined gs i (Name x) = refl
row_line_unlined gs i (Num n) = refl
row_line_unlined gs i Unknown = refl
row_line_unlined gs i Unworked = refl
row_line_unlined gs i End = refl

pub flat_unlined : (is : Items) (deep : Bool) (gs : Grids) (rs : Ranges) (os : Open) (k : ℕ) →
    AreUnlined (flat deep gs rs os k (all_unlined is)) (flat deep gs rs os k is)
flat_unlined [] deep gs rs os k = refl
flat_unlined (i ∷ is) deep gs rs os k =
    either (is_directive i.terminal) _ _ _ _ _ refl
    (ap (λ (j : Item Terminal). j ∷ flat deep gs rs os k (all_unlined is)) (row_line_unlined gs i i.terminal)
    ∙ one (flat_line gs i i.terminal) _ _ (flat_unlined is deep gs rs os k))
    (ap (λ (js : Items). flat_on deep gs rs os k (unlined i) js (λ gs rs os k. flat deep gs rs os k (all_unlined is)))
    (bare_unlined is)
    ∙ on_same deep k gs rs os i (bare is) (λ gs rs os k. flat deep gs rs os k is)
    (λ gs rs os k. flat deep gs rs os k (all_unlined is)) (λ gs rs os k. flat_unlined is deep gs rs os k))
