-- Lines get the clauses that they lack without a look at the lines of the tokens.
use Rattle.std.proofs.Common.{◌≡◌, ◌∙◌, ℕ, Bool, true, false, cond, List, [], ◌∷◌, refl, ap}
use Rattle.std.specs.Prelude.{◌&&◌, ◌||◌, not, codes}
use Rattle.c_grammar.specs.Lexeme.{Lexeme, Placed}
use Rattle.c_grammar.specs.Terminal.{Terminal, Fixed, Mark, Name, Num, Line, Unknown, Unworked, End}
use Rattle.c_grammar.specs.Texts.{Item}
use Rattle.c_grammar.specs.Blocks.{Items, bare}
use Rattle.c_grammar.specs.Boxes.{boxes_of}
use Rattle.c_grammar.specs.Constants.{Names, depth_behind}
use Rattle.c_grammar.specs.Counters.{is_set}
use Rattle.c_grammar.specs.Expressions.{placed_of}
use Rattle.c_grammar.specs.Lines.{is_omp}
use Rattle.c_grammar.specs.Nesting.{has}
use Rattle.c_grammar.specs.Presence.{before_end, is_target, no_clause, target_column, uses, uses_on}
use Rattle.c_grammar.specs.Shared.{Region, all_kept, apart, array_at, awaited, behind, block_arrays, copies_at, copies_one, is_copied, is_elsewhere, is_mapped, is_parted, is_shared, kept_on, marked, marked_at, region_of, shares, shares_at, unshared, uses_one, waits_at}
use Rattle.c_grammar.specs.Updates.{is_combined}
use Rattle.same_text.specs.Laws.{unlined}
use Rattle.same_text.proofs.Unlined.{AreUnlined, all_unlined, bare_unlined}
use Rattle.same_text.proofs.UnlinedBoxes.{boxes_unlined}
use Rattle.same_text.proofs.UnlinedPresence.{line_unlined, on_unlined, same_if, uses_unlined}

-- ---- lines

mark_unlined : (b : Bool) (i : Item Terminal) (t : Terminal) → marked_at b (unlined i) t ≡ unlined (marked_at b i t)
mark_unlined b i (Line ts) =
    let ps : List Placed = placed_of ts i.columns in
    line_unlined i ts (before_end (no_clause (target_column ps)) ps) (is_omp ts && (is_target ts && b))
mark_unlined b i (Fixed w) = refl
mark_unlined b i (Mark s) = refl
mark_unlined b i (Name x) = refl
mark_unlined b i (Num n) = refl
mark_unlined b i Unknown = refl
mark_unlined b i Unworked = refl
mark_unlined b i End = refl

module _ (f : Terminal → Items → Bool) (same : (t : Terminal) (is : Items) → f t (all_unlined is) ≡ f t is) where
  marked_unlined : (is : Items) → AreUnlined (marked f (all_unlined is)) (marked f is)
  marked_unlined [] = refl
  marked_unlined (i ∷ is) =
      ap (λ (js : Items). marked_at (f i.terminal js) (unlined i) i.terminal ∷ marked f (all_unlined is)) (bare_unlined is)
      ∙ ap (λ (b : Bool). marked_at b (unlined i) i.terminal ∷ marked f (all_unlined is)) (same i.terminal (bare is))
      ∙ ap (λ (j : Item Terminal). j ∷ marked f (all_unlined is)) (mark_unlined (f i.terminal (bare is)) i i.terminal)
      ∙ ap (λ (js : Items). unlined (marked_at (f i.terminal (bare is)) i i.terminal) ∷ js) (marked_unlined is)

-- ---- names of loops

set_unlined : (is : Items) → is_set (all_unlined is) ≡ is_set is
set_unlined [] = refl
set_unlined (i ∷ is) = refl

one_unlined : (ts : List Lexeme) (r : Region) (i : Item Terminal) (is : Items) →
    is_shared ts r (unlined i) (all_unlined is) ≡ is_shared ts r i is
one_unlined ts r i is = rw (set_unlined is) refl

shares_unlined : (ts : List Lexeme) (is : Items) (r : Region) (d : ℕ) → shares ts r d (all_unlined is) ≡ shares ts r d is
shares_unlined ts [] r d = refl
shares_unlined ts (i ∷ is) r d =
    ap (λ (b : Bool). cond b true rest) (one_unlined ts r i is)
    ∙ same_if (is_shared ts r i is) _ _ _ _ refl
    (on_unlined d i is (λ k. shares ts (behind r i) k is) (λ k. shares ts (behind r i) k (all_unlined is))
    (shares_unlined ts is (behind r i)))
  where
    rest : Bool
    rest = uses_on d (unlined i) (all_unlined is) (λ k. shares ts (behind r i) k (all_unlined is))

at_unlined : (t : Terminal) (is : Items) → shares_at t (all_unlined is) ≡ shares_at t is
at_unlined (Line ts) is =
    ap (λ (b : Bool). is_copied ts 0 false ts || is_parted ts || (is_combined ts && b)) (shares_unlined ts is (region_of ts) 0)
at_unlined (Fixed w) is = refl
at_unlined (Mark s) is = refl
at_unlined (Name x) is = refl
at_unlined (Num n) is = refl
at_unlined Unknown is = refl
at_unlined Unworked is = refl
at_unlined End is = refl

pub unshared_unlined : (is : Items) → AreUnlined (unshared (all_unlined is)) (unshared is)
unshared_unlined is = marked_unlined shares_at at_unlined is

-- ---- arrays of blocks

array_unlined : (d : ℕ) (i : Item Terminal) (is : Items) (xs : Names) →
    array_at d (unlined i) (all_unlined is) xs ≡ array_at d i is xs
array_unlined d i [] xs = refl
array_unlined d i (x ∷ []) xs = refl
array_unlined d i (x ∷ b ∷ is) xs = refl

arrays_unlined : (is : Items) (d : ℕ) (xs : Names) → block_arrays d xs (all_unlined is) ≡ block_arrays d xs is
arrays_unlined [] d xs = refl
arrays_unlined (i ∷ is) d xs =
    ap (λ (ys : Names). block_arrays (depth_behind i.terminal d) ys (all_unlined is)) (array_unlined d i is xs)
    ∙ arrays_unlined is (depth_behind i.terminal d) (array_at d i is xs)

uses_one_unlined : (xs : Names) (is : Items) → uses_one xs (all_unlined is) ≡ uses_one xs is
uses_one_unlined [] is = refl
uses_one_unlined (x ∷ xs) is =
    ap (λ (b : Bool). b || uses_one xs (all_unlined is)) (uses_unlined x is 0)
    ∙ ap (λ (b : Bool). uses x 0 is || b) (uses_one_unlined xs is)

waits_unlined : (xs : Names) (t : Terminal) (is : Items) → waits_at xs t (all_unlined is) ≡ waits_at xs t is
waits_unlined xs (Line ts) is = ap (λ (b : Bool). has (codes "nowait") ts && b) (uses_one_unlined xs is)
waits_unlined xs (Fixed w) is = refl
waits_unlined xs (Mark s) is = refl
waits_unlined xs (Name x) is = refl
waits_unlined xs (Num n) is = refl
waits_unlined xs Unknown is = refl
waits_unlined xs Unworked is = refl
waits_unlined xs End is = refl

pub awaited_unlined : (is : Items) → AreUnlined (awaited (all_unlined is)) (awaited is)
awaited_unlined is =
    ap (λ (js : Items). marked (waits_at (block_arrays 0 [] js)) (all_unlined is)) (bare_unlined is)
    ∙ ap (λ (xs : Names). marked (waits_at xs) (all_unlined is)) (arrays_unlined (bare is) 0 [])
    ∙ marked_unlined (waits_at (block_arrays 0 [] (bare is))) (waits_unlined (block_arrays 0 [] (bare is))) is

-- ---- boxed scalars

kept_unlined : (is : Items) (xs : Names) → all_kept (all_unlined is) xs ≡ all_kept is xs
kept_unlined [] xs = refl
kept_unlined (i ∷ is) xs = kept_unlined is (kept_on i.terminal xs)

copies_unlined : (names kept : Names) (ts : List Lexeme) (is : Items) →
    copies_one names kept ts (all_unlined is) ≡ copies_one names kept ts is
copies_unlined [] kept ts is = refl
copies_unlined (x ∷ xs) kept ts is =
    ap (λ (b : Bool). (b && (not (is_mapped x 0 false ts) && is_elsewhere kept ts x)) || copies_one xs kept ts (all_unlined is))
    (uses_unlined x is 0)
    ∙ ap (λ (b : Bool). (uses x 0 is && (not (is_mapped x 0 false ts) && is_elsewhere kept ts x)) || b)
    (copies_unlined xs kept ts is)

copy_unlined : (names kept : Names) (t : Terminal) (is : Items) → copies_at names kept t (all_unlined is) ≡ copies_at names kept t is
copy_unlined names kept (Line ts) is = copies_unlined names kept ts is
copy_unlined names kept (Fixed w) is = refl
copy_unlined names kept (Mark s) is = refl
copy_unlined names kept (Name x) is = refl
copy_unlined names kept (Num n) is = refl
copy_unlined names kept Unknown is = refl
copy_unlined names kept Unworked is = refl
copy_unlined names kept End is = refl

pub apart_unlined : (is : Items) → AreUnlined (apart (all_unlined is)) (apart is)
apart_unlined is =
    ap (λ (names : Names). marked (copies_at names (all_kept (all_unlined is) [])) (all_unlined is)) (boxes_unlined is)
    ∙ ap (λ (kept : Names). marked (copies_at (boxes_of is) kept) (all_unlined is)) (kept_unlined is [])
    ∙ marked_unlined (copies_at (boxes_of is) (all_kept is [])) (copy_unlined (boxes_of is) (all_kept is [])) is
