-- What the definitions say of lines with combined constructs, and of what follows them: worked examples by computation.
use Rattle.std.proofs.Common.{◌≡◌, ℕ, ◌+◌, List, [], ◌∷◌, ◌++◌, Option, Some, None, refl}
use Rattle.std.specs.Prelude.{codes}
use Rattle.c_tokens.specs.declared.kind.Sign.TheVariants as sign
use Rattle.base.specs.declared.fault.ReadCode.{ReadCode as Code}
use Rattle.base.specs.declared.fault.ReadCode.TheVariants.{Unexpected, BadOperand, UnknownDirective, UnknownClause, ClauseCount, NoBody}
use Rattle.c_grammar.specs.Lexeme.{Lexeme, Uint64, Int, Main, Void, For, Reserved, Signed, Worded, Numbered, Ended}
use Rattle.c_grammar.specs.LineGrammar.{TeamsDistributeParallelForSimd, Combined}
use Rattle.c_grammar.specs.LineRules.{line_breaks, line_wrong, line_enter}
use Rattle.c_grammar.specs.LineMachine.{line_advance, line_place, line_first_broken, line_first_wrong}
use Rattle.c_grammar.specs.Lines.{line_fault, is_omp, kind_of, depth_of, collapse_from, holds, is_atomic, is_target, uses_of, uses_from}
use Rattle.c_grammar.specs.Terminal.{Terminal, Fixed, Mark, Name, Num, Line, End}
use Rattle.c_grammar.specs.Texts.{Item}
use Rattle.c_grammar.specs.Machine.{Found, run}
use Rattle.c_grammar.specs.Rules.{begin, enter, sort_of, breaks, wrong, source_grammar}
use Rattle.c_grammar.specs.Program.{advance, place_code, first_broken, first_wrong, source_machine, start}

-- ---- lines

abbrev w : List ℕ → Lexeme
w x = Worded x

-- # pragma omp target, and then these tokens
abbrev target : List Lexeme → List Lexeme
target ts = w (codes "pragma") ∷ w (codes "omp") ∷ w (codes "target") ∷ (ts ++ Ended ∷ [])

-- word(n)
abbrev with : List ℕ → ℕ → List Lexeme → List Lexeme
with x n ts = w x ∷ Signed sign.OpenParen ∷ Numbered (Some n) ∷ Signed sign.CloseParen ∷ ts

abbrev parallel_for : List Lexeme → List Lexeme
parallel_for ts = w (codes "parallel") ∷ Reserved For ∷ ts

abbrev whole : List Lexeme → List Lexeme
whole ts = w (codes "teams") ∷ w (codes "distribute") ∷ parallel_for (w (codes "simd") ∷ ts)

-- teams distribute parallel for simd collapse(2) num_teams(8) schedule(static, 4)
abbrev with_clauses : List Lexeme
with_clauses = target (whole (with (codes "collapse") 2 (with (codes "num_teams") 8
    (w (codes "schedule") ∷ Signed sign.OpenParen ∷ w (codes "static") ∷ Signed sign.Comma ∷ Numbered (Some 4) ∷
    Signed sign.CloseParen ∷ []))))

no_fault : line_fault with_clauses ≡ None
unfolding line_fault run line_advance line_first_broken line_breaks line_wrong line_enter line_first_wrong line_place
no_fault = refl

its_kind : kind_of with_clauses ≡ Combined TeamsDistributeParallelForSimd
unfolding kind_of
its_kind = refl

two_loops : depth_of with_clauses ≡ 2
unfolding depth_of kind_of collapse_from line_advance
two_loops = refl

-- one loop where nothing is collapsed, and none behind target alone
one_loop : depth_of (target (parallel_for [])) ≡ 1
unfolding depth_of kind_of collapse_from line_advance
one_loop = refl

in_order : depth_of (target (w (codes "nowait") ∷ [])) ≡ 0
unfolding depth_of kind_of collapse_from line_advance
in_order = refl

-- target parallel is no directive, nor is target teams parallel
parallel_alone : line_fault (target (w (codes "parallel") ∷ [])) ≡ Some (4, UnknownDirective)
unfolding line_fault run line_advance line_first_broken line_breaks line_wrong line_enter line_first_wrong line_place
parallel_alone = refl

teams_parallel : line_fault (target (w (codes "teams") ∷ w (codes "parallel") ∷ [])) ≡ Some (4, UnknownDirective)
unfolding line_fault run line_advance line_first_broken line_breaks line_wrong line_enter line_first_wrong line_place
teams_parallel = refl

-- a clause that no part of the construct takes
teams_of_parallel : line_fault (target (parallel_for (with (codes "num_teams") 8 []))) ≡ Some (5, UnknownClause)
unfolding line_fault run line_advance line_first_broken line_breaks line_wrong line_enter line_first_wrong line_place
teams_of_parallel = refl

collapse_of_target : line_fault (target (with (codes "collapse") 2 [])) ≡ Some (3, UnknownClause)
unfolding line_fault run line_advance line_first_broken line_breaks line_wrong line_enter line_first_wrong line_place
collapse_of_target = refl

-- twice
collapse_twice :
    line_fault (target (parallel_for (with (codes "collapse") 2 (with (codes "collapse") 2 [])))) ≡ Some (9, ClauseCount)
unfolding line_fault run line_advance line_first_broken line_breaks line_wrong line_enter line_first_wrong line_place
collapse_twice = refl

-- too many loops, and none
five_loops : line_fault (target (parallel_for (with (codes "collapse") 5 []))) ≡ Some (7, BadOperand)
unfolding line_fault run line_advance line_first_broken line_breaks line_wrong line_enter line_first_wrong line_place
five_loops = refl

no_threads : line_fault (target (parallel_for (with (codes "num_threads") 0 []))) ≡ Some (7, BadOperand)
unfolding line_fault run line_advance line_first_broken line_breaks line_wrong line_enter line_first_wrong line_place
no_threads = refl

-- a schedule that takes no chunk
auto_chunk :
    line_fault (target (parallel_for (w (codes "schedule") ∷ Signed sign.OpenParen ∷ w (codes "auto") ∷ Signed sign.Comma ∷ [])))
    ≡ Some (8, Unexpected)
unfolding line_fault run line_advance line_first_broken line_breaks line_wrong line_enter line_first_wrong line_place
auto_chunk = refl

-- ---- what follows a line

abbrev placed : List Terminal → ℕ → List (Item Terminal)
placed [] k = []
placed (t ∷ ts) k = record { terminal = t; line = 1; column = k; columns = [] } ∷ placed ts (k + 1)

abbrev told : Option (Found source_grammar source_machine) → Option (ℕ × Code)
told None = None
told (Some f) = Some (f.item.column, f.rule.code)

-- which token of int main(void) { ... breaks which rule
abbrev first : List Terminal → Option (ℕ × Code)
first ts = told (run source_grammar source_machine begin start
    (placed (Fixed Int ∷ Fixed Main ∷ Mark sign.OpenParen ∷ Fixed Void ∷ Mark sign.CloseParen ∷ Mark sign.OpenBrace ∷ ts) 0))

-- for (uint64_t x = 0; x < 4; x += 1) {
abbrev loop : List ℕ → List Terminal → List Terminal
loop x ts =
    Fixed For ∷ Mark sign.OpenParen ∷ Fixed Uint64 ∷ Name x ∷ Mark sign.Equal ∷ Num (Some 0) ∷ Mark sign.Semicolon ∷ Name x ∷
    Mark sign.Less ∷ Num (Some 4) ∷ Mark sign.Semicolon ∷ Name x ∷ Mark sign.PlusEqual ∷ Num (Some 1) ∷
    Mark sign.CloseParen ∷ Mark sign.OpenBrace ∷ ts

abbrev close : List Terminal → List Terminal
close ts = Mark sign.CloseBrace ∷ ts

abbrev one : Terminal
one = Line (target (parallel_for []))

abbrev two : Terminal
two = Line (target (parallel_for (with (codes "collapse") 2 [])))

abbrev i : List ℕ
i = codes "i"

abbrev j : List ℕ
j = codes "j"

a_loop : first (one ∷ loop i (close (close (End ∷ [])))) ≡ None
unfolding line_fault run line_advance line_first_broken line_breaks line_wrong line_enter line_first_wrong line_place advance place_code first_broken first_wrong breaks wrong enter sort_of is_omp holds is_atomic depth_of kind_of collapse_from uses_of uses_from is_target
a_loop = refl

-- a block where a loop must stand
a_block : first (one ∷ Mark sign.OpenBrace ∷ close (close (End ∷ []))) ≡ Some (7, NoBody)
unfolding line_fault run line_advance line_first_broken line_breaks line_wrong line_enter line_first_wrong line_place advance place_code first_broken first_wrong breaks wrong enter sort_of is_omp holds is_atomic depth_of kind_of collapse_from uses_of uses_from is_target
a_block = refl

nest : first (two ∷ loop i (loop j (close (close (close (End ∷ [])))))) ≡ None
unfolding line_fault run line_advance line_first_broken line_breaks line_wrong line_enter line_first_wrong line_place advance place_code first_broken first_wrong breaks wrong enter sort_of is_omp holds is_atomic depth_of kind_of collapse_from uses_of uses_from is_target
nest = refl

-- a nest that is not as deep as the loops that are collapsed: at the token where another loop must stand
shallow : first (two ∷ loop i (close (close (End ∷ [])))) ≡ Some (23, NoBody)
unfolding line_fault run line_advance line_first_broken line_breaks line_wrong line_enter line_first_wrong line_place advance place_code first_broken first_wrong breaks wrong enter sort_of is_omp holds is_atomic depth_of kind_of collapse_from uses_of uses_from is_target
shallow = refl

-- and at what stands behind the inner loop
behind : first (two ∷ loop i (loop j (close (loop j (close (close (close (End ∷ [])))))))) ≡ Some (40, Unexpected)
unfolding line_fault run line_advance line_first_broken line_breaks line_wrong line_enter line_first_wrong line_place advance place_code first_broken first_wrong breaks wrong enter sort_of is_omp holds is_atomic depth_of kind_of collapse_from uses_of uses_from is_target
behind = refl
