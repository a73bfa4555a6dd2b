-- The first words of a line that begins with #.
use Rattle.std.proofs.Common.{◌≡◌, ℕ, ◌<◌, ◌≤◌, true, false, List, [], ◌∷◌, length, Some, None, refl, arith}
use Rattle.std.specs.Prelude.{nat_lt}
use Rattle.std.proofs.lemmas.Bool.Decides.{nat_tests}
use Rattle.base.specs.declared.fault.ReadCode.TheVariants.{UnknownByte, BadNumber, TooMany}
use Rattle.c_tokens.specs.declared.kind.Sign.{Sign}
use Rattle.c_grammar.specs.Lexeme.{Lexeme, Reserved, Signed, Worded, Numbered, Strange, Ended, Placed, same}
use Rattle.c_grammar.specs.LineRules.{is_stray, max_name, line_wrong}
use Rattle.c_grammar.specs.LineMachine.{line_first_wrong}
use Rattle.c_expressions.specs.Lines.{pragma, omp, misfit_on, words_misfit}

-- ---- the code that a token has wherever it stands

pub own_strange : (t : Lexeme) → t ≡ Strange → line_first_wrong t ≡ Some UnknownByte
unfolding line_first_wrong line_wrong
own_strange t e = rw e refl

pub own_bad : (t : Lexeme) → t ≡ Numbered None → line_first_wrong t ≡ Some BadNumber
unfolding line_first_wrong line_wrong
own_bad t e = rw e refl

pub own_long : (t : Lexeme) (x : List ℕ) → t ≡ Worded x → max_name < length x → line_first_wrong t ≡ Some TooMany
unfolding line_first_wrong line_wrong
own_long t x e h = (let long : nat_lt max_name (length x) ≡ true = grind (arith, nat_tests) in rw (e, long) refl)

pub own_short : (t : Lexeme) (x : List ℕ) → t ≡ Worded x → length x ≤ max_name → line_first_wrong t ≡ None
unfolding line_first_wrong line_wrong
own_short t x e h = (let short : nat_lt max_name (length x) ≡ false = grind (arith, nat_tests) in rw (e, short) refl)

pub own_stray : (t : Lexeme) (s : Sign) → t ≡ Signed s → is_stray s ≡ true → line_first_wrong t ≡ Some UnknownByte
unfolding line_first_wrong line_wrong
own_stray t s e h = rw (e, h) refl

pub own_sign : (t : Lexeme) (s : Sign) → t ≡ Signed s → is_stray s ≡ false → line_first_wrong t ≡ None
unfolding line_first_wrong line_wrong
own_sign t s e h = rw (e, h) refl

-- a token that breaks no rule wherever it stands, and is no sign
abbrev pub IsQuiet : Lexeme → Type 0
IsQuiet (Reserved w) = Unit {0}
IsQuiet (Signed s) = ⊥
IsQuiet (Numbered (Some n)) = Unit {0}
IsQuiet Ended = Unit {0}
IsQuiet _ = ⊥

pub own_other : (t : Lexeme) → IsQuiet t → line_first_wrong t ≡ None
unfolding line_first_wrong line_wrong
own_other (Reserved w) h = refl
own_other (Signed s) h = absurd h
own_other (Numbered (Some n)) h = refl
own_other (Numbered None) h = absurd h
own_other Ended h = refl
own_other (Worded x) h = absurd h
own_other Strange h = absurd h

-- ---- the words

pub none_words : (ps : List Placed) → ps ≡ [] → words_misfit ps ≡ None
unfolding words_misfit
none_words ps e = rw e refl

pub first_words : (ps qs : List Placed) (p : Placed) → ps ≡ p ∷ qs → same pragma p.lexeme ≡ false →
    words_misfit ps ≡ Some (misfit_on p)
unfolding words_misfit
first_words ps qs p e h = rw (e, h) refl

pub one_words : (ps qs : List Placed) (p : Placed) → ps ≡ p ∷ qs → qs ≡ [] → same pragma p.lexeme ≡ true →
    words_misfit ps ≡ None
unfolding words_misfit
one_words ps qs p e f h = rw (e, h, f) refl

pub second_words : (ps qs rs : List Placed) (p q : Placed) → ps ≡ p ∷ qs → qs ≡ q ∷ rs →
    same pragma p.lexeme ≡ true → same omp q.lexeme ≡ false → words_misfit ps ≡ Some (misfit_on q)
unfolding words_misfit
second_words ps qs rs p q e f h k = rw (e, h, f, k) refl

pub sound_words : (ps qs rs : List Placed) (p q : Placed) → ps ≡ p ∷ qs → qs ≡ q ∷ rs →
    same pragma p.lexeme ≡ true → same omp q.lexeme ≡ true → words_misfit ps ≡ None
unfolding words_misfit
sound_words ps qs rs p q e f h k = rw (e, h, f, k) refl
