-- What is declared and changed is found without a look at the lines of the tokens.
use Rattle.std.proofs.Common.{◌≡◌, ◌∙◌, ℕ, ◌+◌, ◌-◌, Bool, true, false, cond, List, [], ◌∷◌, length, Option, Some, None, refl, ap, ap₂}
use Rattle.std.specs.Prelude.{◌&&◌, ◌||◌, ◌==◌, is_some, nat_lt, not}
use Rattle.c_tokens.specs.declared.kind.Sign.{Sign}
use Rattle.c_tokens.specs.declared.kind.Sign.TheVariants as sign
use Rattle.c_grammar.specs.Lexeme.{For, Int, Main}
use Rattle.c_grammar.specs.Terminal.{Terminal, Fixed, Mark, Name, Num, Line, Unknown, Unworked, End, same}
use Rattle.c_grammar.specs.Texts.{Item}
use Rattle.c_grammar.specs.Blocks.{Items}
use Rattle.c_grammar.specs.Choices.{opens}
use Rattle.c_grammar.specs.Constants.{depth_behind, is_mark}
use Rattle.c_grammar.specs.FunctionHeads.{is_qualifier}
use Rattle.c_grammar.specs.Lasting.{begins_change}
use Rattle.c_grammar.specs.Loops.{steps}
use Rattle.c_grammar.specs.Types.{At, AtMain, Count, Flag, Found, Free, Heading, In, InMain, Kind, Listed, Mode, Out, State, Typed, Wide, begin, behind, behind_heading, behind_mode, behind_one, counted, declared_by, ends, found, found_from, found_in, given, heading_behind, is_enumeration, is_fixed, is_fixed_terminal, is_loose, is_loose_terminal, is_operator, is_round, kind_of, mode_by, most_names, named, named_by, named_in, next_is, noted, nothing_found, round_behind, scalar, taken_by, takes, used, with_function, with_kind}
use Rattle.same_text.specs.Laws.{unlined}
use Rattle.same_text.proofs.Unlined.{all_unlined}

-- ---- the next token

pub next_mark : (m : Sign) (is : Items) → next_is (is_mark m) (all_unlined is) ≡ next_is (is_mark m) is
next_mark m [] = refl
next_mark m (i ∷ is) = refl

next_opens : (is : Items) → next_is opens (all_unlined is) ≡ next_is opens is
next_opens [] = refl
next_opens (i ∷ is) = refl

pub one_same : (is : Items) → behind_one (all_unlined is) ≡ all_unlined (behind_one is)
one_same [] = refl
one_same (i ∷ is) = refl

change_same : (is : Items) → begins_change (all_unlined is) ≡ begins_change is
change_same [] = refl
change_same (i ∷ is) = refl

-- ---- where a token stands

behind_mode_same : (m : Mode) (i : Item Terminal) → behind_mode m (unlined i) ≡ behind_mode m i
behind_mode_same Free i = refl
behind_mode_same (Typed k star) i = refl
behind_mode_same (Listed k n) i = refl

mode_by_same : (m : Mode) (i : Item Terminal) (o : Option Kind) → mode_by m (unlined i) o ≡ mode_by m i o
mode_by_same m i None = behind_mode_same m i
mode_by_same m i (Some k) = refl

behind_heading_same : (h : Heading) (i : Item Terminal) → behind_heading h (unlined i) ≡ behind_heading h i
behind_heading_same Out i = refl
behind_heading_same At i = refl
behind_heading_same In i = refl
behind_heading_same AtMain i = refl
behind_heading_same InMain i = refl

heading_same : (h : Heading) (i : Item Terminal) → heading_behind h (unlined i) ≡ heading_behind h i
heading_same h i = λ k.
    cond (same (Fixed For) i.terminal) At (cond (same (Fixed Main) i.terminal) AtMain (behind_heading_same h i k))

pub behind_same : (s : State) (i : Item Terminal) → behind s (unlined i) ≡ behind s i
behind_same s i = λ k. record {
  mode = cond (is_mark sign.Semicolon i) Free (mode_by_same s.mode i (kind_of i.terminal) k);
  heading = heading_same s.heading i k;
  round = round_behind s.round i;
  depth = depth_behind i.terminal s.depth;
  stepped = steps i;
}

-- ---- functions

takes_same : (is : Items) (int star : Bool) (d : ℕ) → takes int star d (all_unlined is) ≡ takes int star d is
takes_same [] int star d = refl
takes_same (i ∷ is) int star d = λ k.
    cond (is_mark sign.CloseParen i) (cond (d == 0) (taken_by int star ∷ []) (takes_same is int star (d - 1) k))
    (cond (is_mark sign.OpenParen i) (takes_same is int true (d + 1) k)
    (cond (is_mark sign.Comma i && (d == 0)) (taken_by int star ∷ takes_same is false false 0 k)
    (takes_same is (int || same (Fixed Int) i.terminal)
    (star || (is_mark sign.Star i || is_mark sign.OpenBracket i)) d k)))

parameters_same : (is : Items) →
    takes false false 0 (behind_one (all_unlined is)) ≡ takes false false 0 (behind_one is)
parameters_same is = ap (takes false false 0) (one_same is) ∙ takes_same (behind_one is) false false 0

function_same : (s : State) (x : List ℕ) (is : Items) (f : Found) →
    with_function s x (all_unlined is) f ≡ with_function s x is f
function_same s x is f = λ k.
    cond ((s.depth == 0) &&
    ((s.round == 0) && (next_mark sign.OpenParen is k && nat_lt (length f.functions) most_names)))
    (record f { functions = record { name = x; takes = parameters_same is k } ∷ f.functions }) f

-- ---- values

fixed_same : (f : Found) (is : Items) → is_fixed f (all_unlined is) ≡ is_fixed f is
fixed_same f [] = refl
fixed_same f (i ∷ is) = λ k.
    ends i || ((is_operator i || (is_round i || is_fixed_terminal f i.terminal)) && fixed_same f is k)

loose_same : (f : Found) (is : Items) → is_loose f (all_unlined is) ≡ is_loose f is
loose_same f [] = refl
loose_same f (i ∷ is) = λ k.
    not (ends i) && (is_mark sign.Minus i || (is_loose_terminal f i.terminal || loose_same f is k))

given_same : (x : List ℕ) (is : Items) (f : Found) → given x (all_unlined is) f ≡ given x is f
given_same x is f = λ k.
    cond (fixed_same f is k) (cond (loose_same f is k) (record f { loose = noted x f.loose }) f)
    (record f { varied = noted x f.varied })

-- ---- names

value_same : (x : List ℕ) (is : Items) (f : Found) →
    given x (behind_one (all_unlined is)) f ≡ given x (behind_one is) f
value_same x is f = ap (λ (js : Items). given x js f) (one_same is) ∙ given_same x (behind_one is) f

scalar_same : (s : State) (x : List ℕ) (is : Items) (f : Found) → scalar s x (all_unlined is) f ≡ scalar s x is f
scalar_same s x is f = λ k.
    cond (nat_lt 0 s.round) (record f { parameters = noted x f.parameters })
    (cond (next_mark sign.Equal is k) (value_same x is f k) (record f { varied = noted x f.varied }))

counted_same : (s : State) (star : Bool) (x : List ℕ) (is : Items) (f : Found) →
    counted s star x (all_unlined is) f ≡ counted s star x is f
counted_same s star x is f = λ k.
    cond star (record f { pointers = noted x f.pointers; varied = noted x f.varied })
    (cond (next_opens is k) (record f { varied = noted x f.varied })
    (scalar_same s x is (record f { scalars = noted x f.scalars }) k))

declared_same : (k : Kind) (s : State) (star : Bool) (x : List ℕ) (is : Items) (f : Found) →
    declared_by k s star x (all_unlined is) f ≡ declared_by k s star x is f
declared_same Count s star x is f = counted_same s star x is f
declared_same Flag s star x is f = refl
declared_same Wide s star x is f = refl

used_same : (s : State) (x : List ℕ) (is : Items) (f : Found) → used s x (all_unlined is) f ≡ used s x is f
used_same s x is f = λ k. cond (s.stepped || change_same is k) (record f { varied = noted x f.varied }) f

in_same : (m : Mode) (s : State) (x : List ℕ) (is : Items) (f : Found) →
    named_in m s x (all_unlined is) f ≡ named_in m s x is f
in_same (Typed k star) s x is f = declared_same k s star x is (with_kind k x f)
in_same Free s x is f = used_same s x is f
in_same (Listed k n) s x is f = used_same s x is f

by_same : (h : Heading) (s : State) (x : List ℕ) (is : Items) (f : Found) →
    named_by h s x (all_unlined is) f ≡ named_by h s x is f
by_same In s x is f = refl
by_same InMain s x is f = refl
by_same Out s x is f = in_same s.mode s x is f
by_same At s x is f = in_same s.mode s x is f
by_same AtMain s x is f = in_same s.mode s x is f

named_same : (s : State) (x : List ℕ) (is : Items) (f : Found) → named s x (all_unlined is) f ≡ named s x is f
named_same s x is f =
    ap (named_by s.heading s x (all_unlined is)) (function_same s x is f)
    ∙ by_same s.heading s x is (with_function s x is f)

-- ---- all tokens

token_same : (t : Terminal) (s : State) (is : Items) (f : Found) → found_in t s (all_unlined is) f ≡ found_in t s is f
token_same (Name x) s is f = λ k.
    cond (is_some (kind_of (Name x)) || is_qualifier (Name x)) f
    (cond (is_enumeration x) (record f { enumerates = true }) (named_same s x is f k))
token_same (Num o) s is f = refl
token_same (Line ts) s is f = refl
token_same (Fixed w) s is f = refl
token_same (Mark m) s is f = refl
token_same Unknown s is f = refl
token_same Unworked s is f = refl
token_same End s is f = refl

from_same : (is : Items) (s : State) (f : Found) → found_from s f (all_unlined is) ≡ found_from s f is
from_same [] s f = refl
from_same (i ∷ is) s f =
    ap₂ (λ (t : State) (g : Found). found_from t g (all_unlined is)) (behind_same s i) (token_same i.terminal s is f)
    ∙ from_same is (behind s i) (found_in i.terminal s is f)

pub found_same : (is : Items) → found (all_unlined is) ≡ found is
found_same is = from_same is begin nothing_found
