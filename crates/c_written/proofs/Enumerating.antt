-- One constant of an enumeration after another.
use Rattle.std.proofs.Common.{◌≡◌, ◌∙◌, ℕ, ◌+◌, ◌<◌, length, Bool, true, false, List, [], ◌∷◌, Option, Some, None, refl, sym, ap, arith}
use Rattle.std.specs.Prelude.{◌&&◌, MatchOption, if◌then◌else◌}
use Rattle.std.proofs.lemmas.Bool.{true≢false}
use Rattle.c_tokens.specs.declared.kind.Sign.TheVariants as sign
use Rattle.c_grammar.specs.Terminal.{Terminal}
use Rattle.c_grammar.specs.Texts.{Item}
use Rattle.c_grammar.specs.Blocks.{Items, bare}
use Rattle.c_grammar.specs.Constants.{Names, enumerators_len, is_free, is_mark, is_number, is_unworked}
use Rattle.c_terminals.specs.declared.token.Token.{Token}
use Rattle.c_terminals.specs.Seen.{seen, seen_all}
use Rattle.c_written.proofs.Targeting.{few_ahead}

-- the next token, if there is one
abbrev pub IsNext : Option Token → Items → Items → Type 0
IsNext o old new = MatchOption o (old ≡ []) (λ t. old ≡ seen t ∷ new)

-- the answer of a test of it
abbrev pub Tests : Option Token → Bool → (Item Terminal → Bool) → Type 0
Tests o b test = MatchOption o (b ≡ false) (λ t. b ≡ test (seen t))

-- the lengths that a constant asks for, by what stands behind its name
abbrev pub behind_name : Names → ℕ → Item Terminal → Item Terminal → Item Terminal → Items → Option ℕ
behind_name names k n c s is =
    if is_unworked n.terminal then Some (k + 2)
    else (if is_number n.terminal && is_mark sign.Comma c then enumerators_len names (k + 4) (s ∷ is)
    else (if is_number n.terminal && is_mark sign.CloseBrace c && is_mark sign.Semicolon s then Some (k + 5) else None))

one_len : (names : Names) (k : ℕ) (x e n c s : Item Terminal) (is : Items) → is_free names x.terminal ≡ true → is_mark sign.Equal e ≡ true →
    enumerators_len names k (x ∷ e ∷ n ∷ c ∷ s ∷ is) ≡ behind_name names k n c s is
one_len names k x e n c s is f g = rw f (rw g refl)

-- a free name, and an equals sign behind it
pub named_len : (names : Names) (k : ℕ) (o1 o2 : Option Token) (is l1 l2 l3 l4 l5 : Items) (n c s : Token) (free equal : Bool) →
    IsNext o1 is l1 → IsNext o2 l1 l2 → l2 ≡ seen n ∷ l3 → l3 ≡ seen c ∷ l4 → l4 ≡ seen s ∷ l5 →
    Tests o1 free (λ i. is_free names i.terminal) → free ≡ true → Tests o2 equal (is_mark sign.Equal) → equal ≡ true →
    enumerators_len names k is ≡ behind_name names k (seen n) (seen c) (seen s) l5
named_len names k None o2 is l1 l2 l3 l4 l5 n c s free equal e1 e2 e3 e4 e5 t1 f t2 g = absurd (true≢false (sym f ∙ t1))
named_len names k (Some x) None is l1 l2 l3 l4 l5 n c s free equal e1 e2 e3 e4 e5 t1 f t2 g = absurd (true≢false (sym g ∙ t2))
named_len names k (Some x) (Some e) is l1 l2 l3 l4 l5 n c s free equal e1 e2 e3 e4 e5 t1 f t2 g =
    ap (enumerators_len names k)
    (e1 ∙ ap (λ (js : Items). seen x ∷ js) (e2 ∙ ap (λ (js : Items). seen e ∷ js) (e3 ∙ ap (λ (js : Items). seen n ∷ js)
    (e4 ∙ ap (λ (js : Items). seen c ∷ js) e5))))
    ∙ one_len names k (seen x) (seen e) (seen n) (seen c) (seen s) l5 (sym t1 ∙ f) (sym t2 ∙ g)

-- how many more tokens there were
pub four_less : (o1 o2 : Option Token) (is l1 l2 l3 l4 : Items) (n c : Token) (free equal : Bool) (test : Item Terminal → Bool) (other : Item Terminal → Bool) →
    IsNext o1 is l1 → IsNext o2 l1 l2 → l2 ≡ seen n ∷ l3 → l3 ≡ seen c ∷ l4 → Tests o1 free test → free ≡ true → Tests o2 equal other → equal ≡ true →
    length is ≡ 4 + length l4
four_less None o2 is l1 l2 l3 l4 n c free equal test other e1 e2 e3 e4 t1 f t2 g = absurd (true≢false (sym f ∙ t1))
four_less (Some x) None is l1 l2 l3 l4 n c free equal test other e1 e2 e3 e4 t1 f t2 g = absurd (true≢false (sym g ∙ t2))
four_less (Some x) (Some e) is l1 l2 l3 l4 n c free equal test other e1 e2 e3 e4 t1 f t2 g =
    ap length (e1 ∙ ap (λ (js : Items). seen x ∷ js) (e2 ∙ ap (λ (js : Items). seen e ∷ js) (e3 ∙ ap (λ (js : Items). seen n ∷ js) e4)))
    ∙ omega arith

-- ---- by what the tests of the number and of the sign answer

pub no_value : (names : Names) (k : ℕ) (n c s : Item Terminal) (is : Items) → is_unworked n.terminal ≡ true →
    Some (k + 2) ≡ behind_name names k n c s is
no_value names k n c s is a = rw a refl

pub no_number : (names : Names) (k : ℕ) (n c s : Item Terminal) (is : Items) → is_unworked n.terminal ≡ false → is_number n.terminal ≡ false →
    None ≡ behind_name names k n c s is
no_number names k n c s is a b = rw a (rw b refl)

pub one_more : (names : Names) (k : ℕ) (n c s : Item Terminal) (is : Items) → is_unworked n.terminal ≡ false → is_number n.terminal ≡ true →
    is_mark sign.Comma c ≡ true → behind_name names k n c s is ≡ enumerators_len names (k + 4) (s ∷ is)
one_more names k n c s is a b d = rw a (rw b (rw d refl))

pub last_one : (names : Names) (k : ℕ) (n c s : Item Terminal) (is : Items) (ends : Bool) → is_unworked n.terminal ≡ false → is_number n.terminal ≡ true →
    is_mark sign.Comma c ≡ false → ends ≡ (is_mark sign.CloseBrace c && is_mark sign.Semicolon s) →
    (if ends then Some (k + 5) else None) ≡ behind_name names k n c s is
last_one names k n c s is ends a b d e = rw a (rw b (rw d (ap (λ t. if t then Some (k + 5) else None) e)))

pub and_true : (a b : Bool) → a ≡ true → b ≡ (a && b)
and_true true b h = refl
and_true false b h = absurd cc

pub and_false : (a b : Bool) → a ≡ false → false ≡ (a && b)
and_false true b h = absurd cc
and_false false b h = refl

-- what stands behind the next token is no longer
pub few_behind : (ts : List Token) (n : ℕ) (o : Option Token) (is js : Items) (b : Bool) (test : Item Terminal → Bool) → length ts < n →
    is ≡ bare (seen_all ts) → IsNext o is js → Tests o b test → b ≡ true → length js < n
few_behind ts n None is js b test few e next t h = absurd (true≢false (sym h ∙ t))
few_behind ts n (Some x) is js b test few e next t h = few_ahead ts n (seen x) js is few e next
