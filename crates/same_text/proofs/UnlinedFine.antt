-- Whether values of the type int are small is said without a look at the lines of the tokens.
use Rattle.std.proofs.Common.{◌≡◌, ◌∙◌, ℕ, zero, suc, ◌+◌, ◌-◌, Bool, true, false, cond, List, [], ◌∷◌, Option, Some, None, refl, ap, ap₂}
use Rattle.std.specs.Prelude.{◌&&◌, ◌||◌, ◌==◌, codes, nat_lt, not}
use Rattle.std.specs.Str.{bytes_eq}
use Rattle.c_tokens.specs.declared.kind.Sign.TheVariants as sign
use Rattle.c_grammar.specs.Terminal.{Terminal, Fixed, Mark, Name, Num, Line, Unknown, Unworked, End}
use Rattle.c_grammar.specs.Texts.{Item}
use Rattle.c_grammar.specs.Blocks.{Items}
use Rattle.c_grammar.specs.Choices.{closes, is_setting, opens}
use Rattle.c_grammar.specs.Constants.{depth_behind, is_mark, is_name}
use Rattle.c_grammar.specs.LineRules.{is_among}
use Rattle.c_grammar.specs.Types.{Any, Cells, Found, Left, Number, Part, Rest, Taken, all_fine, alone, are_small, assigns, begins_skip, behind_one, closed, converts, ends_value, fine_call, fine_mark, fine_name, function_of, further, goes_on, has_cells, is_fine, is_listed_small, is_only, is_passed, is_small, is_small_given, is_small_value, left_behind, name_behind, next_converts, nothing_read, outer_behind, passes, returns_by, skipped, token_on, value_from, value_on, wanted, with_operand}
use Rattle.same_text.specs.Laws.{unlined}
use Rattle.same_text.proofs.Unlined.{all_unlined}
use Rattle.same_text.proofs.UnlinedFound.{next_mark, one_same}

-- ---- a value

abbrev RestSame : Rest → Rest → Type 0
RestSame go' go = (os : List Part) (p : Part) (n : ℕ) (named : Bool) → go' os p n named ≡ go os p n named

closed_same : (os : List Part) (p : Part) (go go' : Rest) → RestSame go' go → closed os p go' ≡ closed os p go
closed_same [] p go go' r = refl
closed_same (o ∷ os) p go go' r = r os (with_operand (is_small p) o) 0 false

goes_same : (os : List Part) (o : Option Part) (named : Bool) (go go' : Rest) → RestSame go' go →
    goes_on os o named go' ≡ goes_on os o named go
goes_same os None named go go' r = refl
goes_same os (Some p) named go go' r = r os p 0 named

on_same : (f : Found) (os : List Part) (p : Part) (named : Bool) (i : Item Terminal) (go go' : Rest) →
    RestSame go' go →
    value_on f os p named (unlined i) go' ≡ value_on f os p named i go
on_same f os p named i go go' r = λ k.
    cond (begins_skip named i) (r os p 1 false k)
    (cond (is_mark sign.OpenParen i) (r (p ∷ os) nothing_read 0 false k)
    (cond (is_mark sign.CloseParen i) (closed_same os p go go' r k)
    (cond (ends_value i) (is_only os && is_small p) (goes_same os (token_on f p i) (is_name i.terminal) go go' r k))))

from_same : (f : Found) (is : Items) (os : List Part) (p : Part) (n : ℕ) (named : Bool) →
    value_from f os p n named (all_unlined is) ≡ value_from f os p n named is
from_same f [] os p n named = refl
from_same f (i ∷ is) os p (suc n) named = from_same f is os p (skipped n i) false
from_same f (i ∷ is) os p zero named =
    on_same f os p named i (λ os p n named. value_from f os p n named is)
    (λ os p n named. value_from f os p n named (all_unlined is)) (from_same f is)

value_same : (f : Found) (is : Items) → is_small_value f (all_unlined is) ≡ is_small_value f is
value_same f is = from_same f is [] nothing_read 0 false

-- ---- what is given and passed

list_same : (f : Found) (is : Items) → are_small f (all_unlined is) ≡ are_small f is
list_same f [] = refl
list_same f (i ∷ is) = λ k. is_mark sign.CloseBrace i || (is_listed_small f i && list_same f is k)

given_same : (f : Found) (is : Items) → is_small_given f (all_unlined is) ≡ is_small_given f is
given_same f [] = refl
given_same f (i ∷ is) = λ k. cond (is_mark sign.OpenBrace i) (list_same f is k) (value_same f (i ∷ is) k)

alone_same : (is : Items) → alone (all_unlined is) ≡ alone is
alone_same [] = refl
alone_same (i ∷ []) = refl
alone_same (i ∷ j ∷ is) = refl

passed_same : (f : Found) (t : Taken) (is : Items) → is_passed f t (all_unlined is) ≡ is_passed f t is
passed_same f Number is = value_same f is
passed_same f Cells is = ap (λ (x : List ℕ). not (is_among f.wides x)) (alone_same is)
passed_same f Any is = ap (λ (x : List ℕ). not (has_cells f x)) (alone_same is)

passes_same : (f : Found) (is : Items) (ts : List Taken) (begins : Bool) (d : ℕ) →
    passes f ts begins d (all_unlined is) ≡ passes f ts begins d is
passes_same f [] ts begins d = refl
passes_same f (i ∷ is) ts begins d = λ k.
    (not begins || passed_same f (wanted ts) (i ∷ is) k) &&
    cond (opens i) (passes_same f is ts false (d + 1) k)
    (cond (closes i) ((d == 0) || passes_same f is ts false (d - 1) k)
    (cond (is_mark sign.Comma i && (d == 0)) (passes_same f is (further ts) true 0 k) (passes_same f is ts false d k)))

call_same : (f : Found) (o : Option (List Taken)) (is : Items) → fine_call f o (all_unlined is) ≡ fine_call f o is
call_same f None is = refl
call_same f (Some ts) is = ap (passes f ts true 0) (one_same is) ∙ passes_same f (behind_one is) ts true 0

-- ---- all tokens

returns_same : (f : Found) (l : Left) (t : Terminal) (is : Items) →
    returns_by f l t (all_unlined is) ≡ returns_by f l t is
returns_same f l (Name x) is = λ k.
    cond ((l.depth == 0) && next_mark sign.OpenParen is k) (converts f x) l.returns
returns_same f l (Fixed w) is = refl
returns_same f l (Mark m) is = refl
returns_same f l (Num n) is = refl
returns_same f l (Line ts) is = refl
returns_same f l Unknown is = refl
returns_same f l Unworked is = refl
returns_same f l End is = refl

left_same : (f : Found) (l : Left) (i : Item Terminal) (is : Items) →
    left_behind f l (unlined i) (all_unlined is) ≡ left_behind f l i is
left_same f l i is = λ k. record {
  name = name_behind l i;
  cell = is_mark sign.CloseBracket i;
  outer = outer_behind l i;
  returns = returns_same f l i.terminal is k;
  depth = depth_behind i.terminal l.depth;
}

converts_same : (f : Found) (is : Items) → next_converts f (all_unlined is) ≡ next_converts f is
converts_same f [] = refl
converts_same f (i ∷ is) = refl

name_same : (f : Found) (l : Left) (x : List ℕ) (is : Items) → fine_name f l x (all_unlined is) ≡ fine_name f l x is
name_same f l x is = λ k.
    cond (bytes_eq x (codes "return")) (not l.returns || value_same f is k)
    (cond (nat_lt 0 l.depth && next_mark sign.OpenParen is k) (call_same f (function_of f.functions x) is k) true)

mark_same : (f : Found) (l : Left) (i : Item Terminal) (is : Items) →
    fine_mark f l (unlined i) (all_unlined is) ≡ fine_mark f l i is
mark_same f l i is = λ k.
    cond (is_setting i.terminal) (not (assigns f l) || (not (is_mark sign.MinusEqual i) && given_same f is k))
    (cond (is_mark sign.MinusMinus i) (not (assigns f l) && not (converts_same f is k))
    (cond (is_mark sign.FormatInt i) (value_same f is k) true))

token_same : (f : Found) (l : Left) (i : Item Terminal) (t : Terminal) (is : Items) →
    is_fine f l (unlined i) t (all_unlined is) ≡ is_fine f l i t is
token_same f l i (Name x) is = name_same f l x is
token_same f l i (Fixed w) is = mark_same f l i is
token_same f l i (Mark m) is = mark_same f l i is
token_same f l i (Num n) is = mark_same f l i is
token_same f l i (Line ts) is = mark_same f l i is
token_same f l i Unknown is = mark_same f l i is
token_same f l i Unworked is = mark_same f l i is
token_same f l i End is = mark_same f l i is

pub fine_same : (f : Found) (is : Items) (l : Left) → all_fine f l (all_unlined is) ≡ all_fine f l is
fine_same f [] l = refl
fine_same f (i ∷ is) l =
    ap₂ (λ (b c : Bool). b && c) (token_same f l i i.terminal is)
    (ap (λ (m : Left). all_fine f m (all_unlined is)) (left_same f l i is) ∙ fine_same f is (left_behind f l i is))
