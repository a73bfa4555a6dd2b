-- Which scalars are constants is found without a look at the lines of the tokens.
use Rattle.std.proofs.Common.{◌≡◌, ◌∙◌, ℕ, ◌+◌, ◌-◌, Bool, true, false, cond, List, [], ◌∷◌, ◌++◌, refl, ap}
use Rattle.std.specs.Prelude.{◌&&◌, ◌||◌, ◌==◌, not}
use Rattle.c_tokens.specs.declared.kind.Sign.TheVariants as sign
use Rattle.c_grammar.specs.Lexeme.{For, Int, Main}
use Rattle.c_grammar.specs.Terminal.{Terminal, Fixed, Mark, Name, Num, Line, Unknown, Unworked, End, same}
use Rattle.c_grammar.specs.Texts.{Item}
use Rattle.c_grammar.specs.Blocks.{Items, at, bare, is_directive}
use Rattle.c_grammar.specs.Constants.{depth_behind}
use Rattle.c_grammar.specs.Changes.{is_boundary, is_mark}
use Rattle.c_grammar.specs.Counters.{is_type}
use Rattle.c_grammar.specs.Declarations.{is_given, is_name}
use Rattle.c_grammar.specs.Loops.{is_word, steps}
use Rattle.c_grammar.specs.Lasting.{Place, Elsewhere, Heading, Sizing, Dividing, State, allocates, alters, begin, begins_array, begins_change, begins_word, begun, behind, closed, const_at, const_for, declares, divides_by, has_value, is_lasting, is_line, is_looked, is_part, lasting, lasting_in, lasts, lasts_as, may_declare, moved, next, opens, wants}
use Rattle.same_text.specs.Laws.{unlined}
use Rattle.same_text.proofs.Unlined.{AreUnlined, all_unlined, bare_unlined, either, one, some}

-- ---- what changes a scalar

change_same : (is : Items) → begins_change (all_unlined is) ≡ begins_change is
change_same [] = refl
change_same (i ∷ is) = refl

word_same : (x : List ℕ) (is : Items) → begins_word x (all_unlined is) ≡ begins_word x is
word_same x [] = refl
word_same x (i ∷ is) = refl

declares_same : (x : List ℕ) (is : Items) → declares x (all_unlined is) ≡ declares x is
declares_same x [] = refl
declares_same x (i ∷ is) = λ k. is_word x i || (is_mark sign.Star i && word_same x is k)

alters_same : (x : List ℕ) (i : Item Terminal) (is : Items) → alters x (unlined i) (all_unlined is) ≡ alters x i is
alters_same x i is =
    λ k. (is_word x i && change_same is k) || (steps i && word_same x is k) || (is_type i.terminal && declares_same x is k)

-- ---- where a number is wanted

opens_same : (is : Items) → opens (all_unlined is) ≡ opens is
opens_same [] = refl
opens_same (i ∷ is) = refl

array_same : (is : Items) → begins_array (all_unlined is) ≡ begins_array is
array_same [] = refl
array_same (x ∷ []) = refl
array_same (x ∷ b ∷ is) = refl

begun_same : (i : Item Terminal) (is : Items) → begun (unlined i) (all_unlined is) ≡ begun i is
begun_same i is = λ k.
    cond (divides_by i.terminal) (Dividing 0)
    (cond ((is_type i.terminal && array_same is k) || (allocates i && opens_same is k)) Sizing Elsewhere)

moved_same : (p : Place) (i : Item Terminal) (is : Items) → moved p (unlined i) (all_unlined is) ≡ moved p i is
moved_same Elsewhere i is = begun_same i is
moved_same Heading i is = refl
moved_same Sizing i is = refl
moved_same (Dividing d) i is = λ k.
    cond (is_mark sign.OpenParen i) (Dividing (d + 1))
    (cond (is_mark sign.CloseParen i) (closed d) (cond (d == 0) (begun_same i is k) (Dividing d)))

next_same : (p : Place) (i : Item Terminal) (is : Items) → next p (unlined i) (all_unlined is) ≡ next p i is
next_same p i is = λ k. cond (same (Fixed For) i.terminal) Heading (moved_same p i is k)

lasts_same : (is : Items) (x : List ℕ) (p : Place) (found : Bool) → lasts x p found (all_unlined is) ≡ lasts x p found is
lasts_same [] x p found = refl
lasts_same (i ∷ is) x p found =
    ap (λ (q : Place). not (alters x (unlined i) (all_unlined is)) && lasts x q (found || (wants p && is_word x i)) (all_unlined is))
    (next_same p i is)
    ∙ (λ k. not (alters_same x i is k) && lasts_same is x (next p i is) (found || (wants p && is_word x i)) k)

-- ---- its value

value_same : (is : Items) → has_value (all_unlined is) ≡ has_value is
value_same [] = refl
value_same (i ∷ is) =
    λ k. is_mark sign.Semicolon i || ((is_part i.terminal && not (is_name i.terminal && opens_same is k)) && value_same is k)

-- ---- its declaration

as_same : (found : Bool) (t : Terminal) (is : Items) → lasts_as found t (all_unlined is) ≡ lasts_as found t is
as_same found (Fixed w) is = refl
as_same found (Mark s) is = refl
as_same found (Name x) is = lasts_same is x Elsewhere found
as_same found (Num n) is = refl
as_same found (Line ts) is = refl
as_same found Unknown is = refl
as_same found Unworked is = refl
as_same found End is = refl

lasting_same : (i : Item Terminal) (is : Items) → is_lasting (unlined i) (all_unlined is) ≡ is_lasting i is
lasting_same i [] = refl
lasting_same i (x ∷ []) = refl
lasting_same i (x ∷ e ∷ is) = λ k. value_same is k && as_same (same (Fixed Int) i.terminal) x.terminal is k

given_same : (is : Items) → is_given (all_unlined is) ≡ is_given is
given_same [] = refl
given_same (x ∷ []) = refl
given_same (x ∷ e ∷ is) = refl

looked_same : (s : State) (i : Item Terminal) (is : Items) → is_looked s (unlined i) (all_unlined is) ≡ is_looked s i is
looked_same s i is = λ k. may_declare s && (is_type i.terminal && (not (s.left == 0) && given_same is k))

behind_same : (s : State) (i : Item Terminal) (is : Items) → behind s (unlined i) (all_unlined is) ≡ behind s i is
behind_same s i is = λ k. record {
  depth = depth_behind i.terminal s.depth;
  main = s.main || same (Fixed Main) i.terminal;
  starts = is_boundary i.terminal || (is_line i.terminal && s.starts);
  left = cond (looked_same s i is k) (s.left - 1) s.left;
}

const_unlined : (s : State) (i : Item Terminal) (is : Items) →
    AreUnlined (const_for s (unlined i) (all_unlined is)) (const_for s i is)
const_unlined s i is =
    either (is_looked s i is && is_lasting i is) (is_looked s (unlined i) (all_unlined is) && is_lasting (unlined i) (all_unlined is))
    (const_at i) [] _ _ (λ k. looked_same s i is k && lasting_same i is k) refl refl

lasting_in_unlined : (is : Items) (s : State) → AreUnlined (lasting_in s (all_unlined is)) (lasting_in s is)
lasting_in_unlined [] s = refl
lasting_in_unlined (i ∷ is) s = step (is_directive i.terminal) (lasting_in_unlined is)
  where
    put : Items → Items
    put js = const_for s (unlined i) js ++ unlined i ∷ lasting_in (behind s (unlined i) js) (all_unlined is)

    step : (t : Bool) → ((s : State) → AreUnlined (lasting_in s (all_unlined is)) (lasting_in s is)) →
        AreUnlined (cond t (unlined i ∷ lasting_in s (all_unlined is)) (put (bare (all_unlined is))))
        (cond t (i ∷ lasting_in s is) (const_for s i (bare is) ++ i ∷ lasting_in (behind s i (bare is)) is))
    step true ih = one i (lasting_in s is) (lasting_in s (all_unlined is)) (ih s)
    step false ih =
        ap put (bare_unlined is)
        ∙ some (const_for s i (bare is)) (const_for s (unlined i) (all_unlined (bare is))) _ _ (const_unlined s i (bare is))
        (ap (λ (t : State). unlined i ∷ lasting_in t (all_unlined is)) (behind_same s i (bare is))
        ∙ one i (lasting_in (behind s i (bare is)) is) _ (ih (behind s i (bare is))))

pub lasting_unlined : (is : Items) → AreUnlined (lasting (all_unlined is)) (lasting is)
lasting_unlined is = lasting_in_unlined is begin
