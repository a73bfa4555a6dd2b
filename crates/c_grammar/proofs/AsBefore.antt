-- Sources without a new form are as they were, by computation: the examples are refused with the code and place that they had,
-- and the tokens of those that are texts are their own.
use Rattle.std.proofs.Common.{◌≡◌, ℕ, List, [], ◌∷◌, ◌++◌, map, Option, Some, refl}
use Rattle.std.specs.Prelude.{codes}
use Rattle.base.specs.declared.fault.TextFault.{TextFault}
use Rattle.base.specs.declared.fault.ReadCode.{ReadCode as Code}
use Rattle.base.specs.declared.fault.ReadCode.TheVariants.{UnknownByte, Unexpected, Undeclared, AlreadyDeclared, BadNumber, BadLength, LoopNameAssigned, BadOperand, TooDeep, TooMany, UnknownDirective, UnknownClause, ClauseCount, BadMapType, BadBound, ArrayTwice, DirectiveInTarget, OuterAssigned, HostOnly, NoBody, DirectiveUnderIf, BadDevice}
use Rattle.c_tokens.specs.Piece.{number_of, hex_number_of, number_piece, sign_one, sign_two, sign_three, changing_sign, sign_at, piece_at, comment_end_from, is_include}
use Rattle.c_tokens.specs.Text.{after, tokens_from, tokens_of}
use Rattle.c_grammar.specs.Lexeme.{word_of, piece_on_line, lexemes_from}
use Rattle.c_grammar.specs.Lines.{is_omp, kind_of, holds, is_atomic, is_target, depth_of, collapse_from, uses_of, uses_from, line_fault}
use Rattle.c_grammar.specs.LineRules.{line_breaks, line_wrong, line_enter}
use Rattle.c_grammar.specs.LineMachine.{line_advance, line_place, line_first_broken, line_first_wrong}
use Rattle.c_grammar.specs.Expressions.{expression}
use Rattle.c_grammar.specs.LineForms.{line_from}
use Rattle.c_grammar.specs.Constants.{worked, undefined}
use Rattle.c_grammar.specs.Changes.{in_full}
use Rattle.c_grammar.specs.Allocations.{all_read}
use Rattle.c_grammar.specs.Clauses.{clauses_from}
use Rattle.c_grammar.specs.Initial.{initialized}
use Rattle.c_grammar.specs.Blocks.{typed, in_blocks}
use Rattle.c_grammar.specs.Prints.{printed}
use Rattle.c_grammar.specs.Terminal.{Terminal}
use Rattle.c_grammar.specs.Texts.{Item}
use Rattle.c_grammar.specs.Machine.{run}
use Rattle.c_grammar.specs.Rules.{enter, breaks, wrong, sort_of}
use Rattle.c_grammar.specs.Program.{advance, place_code, first_broken, first_wrong}
use Rattle.c_grammar.specs.Source.{fault_in, item_of, written_out}

abbrev at : Code → ℕ → ℕ → Option TextFault
at code line column = Some (record { code = code; line = line; column = column })

abbrev lines : List (List ℕ) → List ℕ
lines [] = []
lines (l ∷ ls) = l ++ (10 ∷ lines ls)

-- its tokens as they stand, and written out
abbrev own : List ℕ → List (Item Terminal)
own text = map (item_of text) (tokens_of text)

abbrev raw : List ℕ → List Terminal
raw text = map (λ i. i.terminal) (own text)

abbrev tokens : List ℕ → List Terminal
tokens text = map (λ i. i.terminal) (written_out (own text))

-- ---- refused as before

example_e101 : fault_in (lines (
    codes "int main(void) { print(1 $ 2); }" ∷ [])) ≡ at UnknownByte 1 26
unfolding number_of hex_number_of number_piece sign_one sign_two sign_three changing_sign sign_at piece_at comment_end_from is_include after tokens_from word_of is_omp expression line_from clauses_from worked in_blocks typed printed undefined all_read initialized in_full run enter breaks wrong sort_of advance place_code first_broken first_wrong kind_of holds is_atomic is_target depth_of collapse_from uses_of uses_from line_fault line_breaks line_wrong line_enter line_advance line_place line_first_broken line_first_wrong piece_on_line lexemes_from
example_e101 = refl

example_e102 : fault_in (lines (
    codes "int main(void) { print(1) }" ∷ [])) ≡ at Unexpected 1 27
unfolding number_of hex_number_of number_piece sign_one sign_two sign_three changing_sign sign_at piece_at comment_end_from is_include after tokens_from word_of is_omp expression line_from clauses_from worked in_blocks typed printed undefined all_read initialized in_full run enter breaks wrong sort_of advance place_code first_broken first_wrong kind_of holds is_atomic is_target depth_of collapse_from uses_of uses_from line_fault line_breaks line_wrong line_enter line_advance line_place line_first_broken line_first_wrong piece_on_line lexemes_from
example_e102 = refl

example_e103 : fault_in (lines (
    codes "int main(void) { print(x); }" ∷ [])) ≡ at Undeclared 1 24
unfolding number_of hex_number_of number_piece sign_one sign_two sign_three changing_sign sign_at piece_at comment_end_from is_include after tokens_from word_of is_omp expression line_from clauses_from worked in_blocks typed printed undefined all_read initialized in_full run enter breaks wrong sort_of advance place_code first_broken first_wrong kind_of holds is_atomic is_target depth_of collapse_from uses_of uses_from line_fault line_breaks line_wrong line_enter line_advance line_place line_first_broken line_first_wrong piece_on_line lexemes_from
example_e103 = refl

example_e104 : fault_in (lines (
    codes "uint64_t x;" ∷
    codes "int main(void) { uint64_t x = 1; }" ∷ [])) ≡ at AlreadyDeclared 2 27
unfolding number_of hex_number_of number_piece sign_one sign_two sign_three changing_sign sign_at piece_at comment_end_from is_include after tokens_from word_of is_omp expression line_from clauses_from worked in_blocks typed printed undefined all_read initialized in_full run enter breaks wrong sort_of advance place_code first_broken first_wrong kind_of holds is_atomic is_target depth_of collapse_from uses_of uses_from line_fault line_breaks line_wrong line_enter line_advance line_place line_first_broken line_first_wrong piece_on_line lexemes_from
example_e104 = refl

example_e105 : fault_in (lines (
    codes "int main(void) { print(18446744073709551616); }" ∷ [])) ≡ at BadNumber 1 24
unfolding number_of hex_number_of number_piece sign_one sign_two sign_three changing_sign sign_at piece_at comment_end_from is_include after tokens_from word_of is_omp expression line_from clauses_from worked in_blocks typed printed undefined all_read initialized in_full run enter breaks wrong sort_of advance place_code first_broken first_wrong kind_of holds is_atomic is_target depth_of collapse_from uses_of uses_from line_fault line_breaks line_wrong line_enter line_advance line_place line_first_broken line_first_wrong piece_on_line lexemes_from
example_e105 = refl

example_e106 : fault_in (lines (
    codes "uint64_t A[0];" ∷
    codes "int main(void) { }" ∷ [])) ≡ at BadLength 1 12
unfolding number_of hex_number_of number_piece sign_one sign_two sign_three changing_sign sign_at piece_at comment_end_from is_include after tokens_from word_of is_omp expression line_from clauses_from worked in_blocks typed printed undefined all_read initialized in_full run enter breaks wrong sort_of advance place_code first_broken first_wrong kind_of holds is_atomic is_target depth_of collapse_from uses_of uses_from line_fault line_breaks line_wrong line_enter line_advance line_place line_first_broken line_first_wrong piece_on_line lexemes_from
example_e106 = refl

example_e107 : fault_in (lines (
    codes "int main(void) { for (uint64_t i = 0; i < 4; i += 1) { i = 2; } }" ∷ [])) ≡ at LoopNameAssigned 1 56
unfolding number_of hex_number_of number_piece sign_one sign_two sign_three changing_sign sign_at piece_at comment_end_from is_include after tokens_from word_of is_omp expression line_from clauses_from worked in_blocks typed printed undefined all_read initialized in_full run enter breaks wrong sort_of advance place_code first_broken first_wrong kind_of holds is_atomic is_target depth_of collapse_from uses_of uses_from line_fault line_breaks line_wrong line_enter line_advance line_place line_first_broken line_first_wrong piece_on_line lexemes_from
example_e107 = refl

example_e108 : fault_in (lines (
    codes "uint64_t x;" ∷
    codes "int main(void) { print(7 % x); }" ∷ [])) ≡ at BadOperand 2 28
unfolding number_of hex_number_of number_piece sign_one sign_two sign_three changing_sign sign_at piece_at comment_end_from is_include after tokens_from word_of is_omp expression line_from clauses_from worked in_blocks typed printed undefined all_read initialized in_full run enter breaks wrong sort_of advance place_code first_broken first_wrong kind_of holds is_atomic is_target depth_of collapse_from uses_of uses_from line_fault line_breaks line_wrong line_enter line_advance line_place line_first_broken line_first_wrong piece_on_line lexemes_from
example_e108 = refl

example_e109 : fault_in (lines (
    codes "int main(void) { print((((((((((((((((((1)))))))))))))))))); }" ∷ [])) ≡ at TooDeep 1 40
unfolding number_of hex_number_of number_piece sign_one sign_two sign_three changing_sign sign_at piece_at comment_end_from is_include after tokens_from word_of is_omp expression line_from clauses_from worked in_blocks typed printed undefined all_read initialized in_full run enter breaks wrong sort_of advance place_code first_broken first_wrong kind_of holds is_atomic is_target depth_of collapse_from uses_of uses_from line_fault line_breaks line_wrong line_enter line_advance line_place line_first_broken line_first_wrong piece_on_line lexemes_from
example_e109 = refl

example_e110 : fault_in (lines (
    codes "int main(void) { print(1+1+1+1+1+1+1+1+1+1+1+1+1+1+1+1+1+1+1+1+1+1+1+1+1+1+1+1+1+1+1+1+1+1+1+1+1+1+1+1+1+1+1+1+1+1+1+1+1+1+1+1+1+1+1+1+1+1+1+1+1+1+1+1+1+1+1+1+1+1+1+1+1+1+1+1+1+1+1+1+1+1+1+1+1+1+1+1+1+1+1+1+1+1+1+1+1+1+1+1+1+1+1+1+1+1+1+1+1+1+1+1+1+1+1+1+1+1+1+1+1+1+1+1+1+1+1+1+1+1+1); }" ∷ [])) ≡ at TooMany 1 280
unfolding number_of hex_number_of number_piece sign_one sign_two sign_three changing_sign sign_at piece_at comment_end_from is_include after tokens_from word_of is_omp expression line_from clauses_from worked in_blocks typed printed undefined all_read initialized in_full run enter breaks wrong sort_of advance place_code first_broken first_wrong kind_of holds is_atomic is_target depth_of collapse_from uses_of uses_from line_fault line_breaks line_wrong line_enter line_advance line_place line_first_broken line_first_wrong piece_on_line lexemes_from
example_e110 = refl

example_e201 : fault_in (lines (
    codes "int main(void) {" ∷
    codes "#pragma omp parallel" ∷
    codes "{ }" ∷
    codes "}" ∷ [])) ≡ at UnknownDirective 2 13
unfolding number_of hex_number_of number_piece sign_one sign_two sign_three changing_sign sign_at piece_at comment_end_from is_include after tokens_from word_of is_omp expression line_from clauses_from worked in_blocks typed printed undefined all_read initialized in_full run enter breaks wrong sort_of advance place_code first_broken first_wrong kind_of holds is_atomic is_target depth_of collapse_from uses_of uses_from line_fault line_breaks line_wrong line_enter line_advance line_place line_first_broken line_first_wrong piece_on_line lexemes_from
example_e201 = refl

example_e202 : fault_in (lines (
    codes "uint64_t A[4];" ∷
    codes "int main(void) {" ∷
    codes "#pragma omp target data map(to: A) nowait" ∷
    codes "{ }" ∷
    codes "}" ∷ [])) ≡ at UnknownClause 3 36
unfolding number_of hex_number_of number_piece sign_one sign_two sign_three changing_sign sign_at piece_at comment_end_from is_include after tokens_from word_of is_omp expression line_from clauses_from worked in_blocks typed printed undefined all_read initialized in_full run enter breaks wrong sort_of advance place_code first_broken first_wrong kind_of holds is_atomic is_target depth_of collapse_from uses_of uses_from line_fault line_breaks line_wrong line_enter line_advance line_place line_first_broken line_first_wrong piece_on_line lexemes_from
example_e202 = refl

example_e203 : fault_in (lines (
    codes "int main(void) {" ∷
    codes "#pragma omp target enter data" ∷
    codes "}" ∷ [])) ≡ at ClauseCount 2 30
unfolding number_of hex_number_of number_piece sign_one sign_two sign_three changing_sign sign_at piece_at comment_end_from is_include after tokens_from word_of is_omp expression line_from clauses_from worked in_blocks typed printed undefined all_read initialized in_full run enter breaks wrong sort_of advance place_code first_broken first_wrong kind_of holds is_atomic is_target depth_of collapse_from uses_of uses_from line_fault line_breaks line_wrong line_enter line_advance line_place line_first_broken line_first_wrong piece_on_line lexemes_from
example_e203 = refl

example_e204 : fault_in (lines (
    codes "uint64_t A[4];" ∷
    codes "int main(void) {" ∷
    codes "#pragma omp target enter data map(from: A)" ∷
    codes "}" ∷ [])) ≡ at BadMapType 3 35
unfolding number_of hex_number_of number_piece sign_one sign_two sign_three changing_sign sign_at piece_at comment_end_from is_include after tokens_from word_of is_omp expression line_from clauses_from worked in_blocks typed printed undefined all_read initialized in_full run enter breaks wrong sort_of advance place_code first_broken first_wrong kind_of holds is_atomic is_target depth_of collapse_from uses_of uses_from line_fault line_breaks line_wrong line_enter line_advance line_place line_first_broken line_first_wrong piece_on_line lexemes_from
example_e204 = refl

example_e205 : fault_in (lines (
    codes "uint64_t A[4];" ∷
    codes "int main(void) {" ∷
    codes "#pragma omp target map(to: A[0])" ∷
    codes "{ }" ∷
    codes "}" ∷ [])) ≡ at BadBound 3 31
unfolding number_of hex_number_of number_piece sign_one sign_two sign_three changing_sign sign_at piece_at comment_end_from is_include after tokens_from word_of is_omp expression line_from clauses_from worked in_blocks typed printed undefined all_read initialized in_full run enter breaks wrong sort_of advance place_code first_broken first_wrong kind_of holds is_atomic is_target depth_of collapse_from uses_of uses_from line_fault line_breaks line_wrong line_enter line_advance line_place line_first_broken line_first_wrong piece_on_line lexemes_from
example_e205 = refl

example_e206 : fault_in (lines (
    codes "uint64_t A[4];" ∷
    codes "int main(void) {" ∷
    codes "#pragma omp target map(to: A[0:2]) map(from: A[2:2])" ∷
    codes "{ }" ∷
    codes "}" ∷ [])) ≡ at ArrayTwice 3 46
unfolding number_of hex_number_of number_piece sign_one sign_two sign_three changing_sign sign_at piece_at comment_end_from is_include after tokens_from word_of is_omp expression line_from clauses_from worked in_blocks typed printed undefined all_read initialized in_full run enter breaks wrong sort_of advance place_code first_broken first_wrong kind_of holds is_atomic is_target depth_of collapse_from uses_of uses_from line_fault line_breaks line_wrong line_enter line_advance line_place line_first_broken line_first_wrong piece_on_line lexemes_from
example_e206 = refl

example_e207 : fault_in (lines (
    codes "int main(void) {" ∷
    codes "#pragma omp target" ∷
    codes "{" ∷
    codes "#pragma omp taskwait" ∷
    codes "}" ∷
    codes "}" ∷ [])) ≡ at DirectiveInTarget 4 1
unfolding number_of hex_number_of number_piece sign_one sign_two sign_three changing_sign sign_at piece_at comment_end_from is_include after tokens_from word_of is_omp expression line_from clauses_from worked in_blocks typed printed undefined all_read initialized in_full run enter breaks wrong sort_of advance place_code first_broken first_wrong kind_of holds is_atomic is_target depth_of collapse_from uses_of uses_from line_fault line_breaks line_wrong line_enter line_advance line_place line_first_broken line_first_wrong piece_on_line lexemes_from
example_e207 = refl

example_e208 : fault_in (lines (
    codes "uint64_t x;" ∷
    codes "int main(void) {" ∷
    codes "#pragma omp target" ∷
    codes "{ x = 1; }" ∷
    codes "}" ∷ [])) ≡ at OuterAssigned 4 3
unfolding number_of hex_number_of number_piece sign_one sign_two sign_three changing_sign sign_at piece_at comment_end_from is_include after tokens_from word_of is_omp expression line_from clauses_from worked in_blocks typed printed undefined all_read initialized in_full run enter breaks wrong sort_of advance place_code first_broken first_wrong kind_of holds is_atomic is_target depth_of collapse_from uses_of uses_from line_fault line_breaks line_wrong line_enter line_advance line_place line_first_broken line_first_wrong piece_on_line lexemes_from
example_e208 = refl

example_e209 : fault_in (lines (
    codes "int main(void) {" ∷
    codes "#pragma omp target" ∷
    codes "{ print(1); }" ∷
    codes "}" ∷ [])) ≡ at HostOnly 3 3
unfolding number_of hex_number_of number_piece sign_one sign_two sign_three changing_sign sign_at piece_at comment_end_from is_include after tokens_from word_of is_omp expression line_from clauses_from worked in_blocks typed printed undefined all_read initialized in_full run enter breaks wrong sort_of advance place_code first_broken first_wrong kind_of holds is_atomic is_target depth_of collapse_from uses_of uses_from line_fault line_breaks line_wrong line_enter line_advance line_place line_first_broken line_first_wrong piece_on_line lexemes_from
example_e209 = refl

example_e210 : fault_in (lines (
    codes "uint64_t x;" ∷
    codes "int main(void) {" ∷
    codes "#pragma omp target" ∷
    codes "x = 1;" ∷
    codes "}" ∷ [])) ≡ at NoBody 4 1
unfolding number_of hex_number_of number_piece sign_one sign_two sign_three changing_sign sign_at piece_at comment_end_from is_include after tokens_from word_of is_omp expression line_from clauses_from worked in_blocks typed printed undefined all_read initialized in_full run enter breaks wrong sort_of advance place_code first_broken first_wrong kind_of holds is_atomic is_target depth_of collapse_from uses_of uses_from line_fault line_breaks line_wrong line_enter line_advance line_place line_first_broken line_first_wrong piece_on_line lexemes_from
example_e210 = refl

example_e211 : fault_in (lines (
    codes "int main(void) {" ∷
    codes "if (1) {" ∷
    codes "#pragma omp taskwait" ∷
    codes "}" ∷
    codes "}" ∷ [])) ≡ at DirectiveUnderIf 3 1
unfolding number_of hex_number_of number_piece sign_one sign_two sign_three changing_sign sign_at piece_at comment_end_from is_include after tokens_from word_of is_omp expression line_from clauses_from worked in_blocks typed printed undefined all_read initialized in_full run enter breaks wrong sort_of advance place_code first_broken first_wrong kind_of holds is_atomic is_target depth_of collapse_from uses_of uses_from line_fault line_breaks line_wrong line_enter line_advance line_place line_first_broken line_first_wrong piece_on_line lexemes_from
example_e211 = refl

example_e212 : fault_in (lines (
    codes "uint64_t A[4];" ∷
    codes "int main(void) {" ∷
    codes "#pragma omp target device(4)" ∷
    codes "{ A[0] = 1; }" ∷
    codes "}" ∷ [])) ≡ at BadDevice 3 27
unfolding number_of hex_number_of number_piece sign_one sign_two sign_three changing_sign sign_at piece_at comment_end_from is_include after tokens_from word_of is_omp expression line_from clauses_from worked in_blocks typed printed undefined all_read initialized in_full run enter breaks wrong sort_of advance place_code first_broken first_wrong kind_of holds is_atomic is_target depth_of collapse_from uses_of uses_from line_fault line_breaks line_wrong line_enter line_advance line_place line_first_broken line_first_wrong piece_on_line lexemes_from
example_e212 = refl

-- ---- other worked rows

row_18 : fault_in (lines (codes "int main(void) {" ∷ codes "print(18446744073709551616);" ∷ codes "}" ∷ [])) ≡ at BadNumber 2 7
unfolding number_of hex_number_of number_piece sign_one sign_two sign_three changing_sign sign_at piece_at comment_end_from is_include after tokens_from word_of is_omp expression line_from clauses_from worked in_blocks typed printed undefined all_read initialized in_full run enter breaks wrong sort_of advance place_code first_broken first_wrong kind_of holds is_atomic is_target depth_of collapse_from uses_of uses_from line_fault line_breaks line_wrong line_enter line_advance line_place line_first_broken line_first_wrong piece_on_line lexemes_from
row_18 = refl

row_25 : fault_in (lines (codes "uint64_t A[4];" ∷ codes "int main(void) {" ∷ codes "#pragma omp target nowait nowait map(to: A)" ∷ codes "{ } }" ∷ [])) ≡ at ClauseCount 3 27
unfolding number_of hex_number_of number_piece sign_one sign_two sign_three changing_sign sign_at piece_at comment_end_from is_include after tokens_from word_of is_omp expression line_from clauses_from worked in_blocks typed printed undefined all_read initialized in_full run enter breaks wrong sort_of advance place_code first_broken first_wrong kind_of holds is_atomic is_target depth_of collapse_from uses_of uses_from line_fault line_breaks line_wrong line_enter line_advance line_place line_first_broken line_first_wrong piece_on_line lexemes_from
row_25 = refl

no_construct : fault_in (lines (codes "int main(void) {" ∷ codes "#pragma omp simd" ∷ codes "}" ∷ [])) ≡ at UnknownDirective 2 13
unfolding number_of hex_number_of number_piece sign_one sign_two sign_three changing_sign sign_at piece_at comment_end_from is_include after tokens_from word_of is_omp expression line_from clauses_from worked in_blocks typed printed undefined all_read initialized in_full run enter breaks wrong sort_of advance place_code first_broken first_wrong kind_of holds is_atomic is_target depth_of collapse_from uses_of uses_from line_fault line_breaks line_wrong line_enter line_advance line_place line_first_broken line_first_wrong piece_on_line lexemes_from
no_construct = refl

divided_by_zero : fault_in (lines (codes "int main(void) { print(7 / 0); }" ∷ [])) ≡ at BadOperand 1 28
unfolding number_of hex_number_of number_piece sign_one sign_two sign_three changing_sign sign_at piece_at comment_end_from is_include after tokens_from word_of is_omp expression line_from clauses_from worked in_blocks typed printed undefined all_read initialized in_full run enter breaks wrong sort_of advance place_code first_broken first_wrong kind_of holds is_atomic is_target depth_of collapse_from uses_of uses_from line_fault line_breaks line_wrong line_enter line_advance line_place line_first_broken line_first_wrong piece_on_line lexemes_from
divided_by_zero = refl

row_23 : fault_in (codes "int main(void) {") ≡ at Unexpected 1 17
unfolding number_of hex_number_of number_piece sign_one sign_two sign_three changing_sign sign_at piece_at comment_end_from is_include after tokens_from word_of is_omp expression line_from clauses_from worked in_blocks typed printed undefined all_read initialized in_full run enter breaks wrong sort_of advance place_code first_broken first_wrong kind_of holds is_atomic is_target depth_of collapse_from uses_of uses_from line_fault line_breaks line_wrong line_enter line_advance line_place line_first_broken line_first_wrong piece_on_line lexemes_from
row_23 = refl

-- ---- the same tokens

example_data : tokens (lines (
    codes "uint64_t A[4];" ∷
    codes "int main(void) {" ∷
    codes "#pragma omp target data map(alloc: A[0:4])" ∷
    codes "{" ∷
    codes "#pragma omp target" ∷
    codes "for (uint64_t i = 0; i < 4; i += 1) { A[i] = i + 5; }" ∷
    codes "#pragma omp target update from(A[0:2])" ∷
    codes "print(A[1]);" ∷
    codes "}" ∷
    codes "}" ∷ [])) ≡ raw (lines (
    codes "uint64_t A[4];" ∷
    codes "int main(void) {" ∷
    codes "#pragma omp target data map(alloc: A[0:4])" ∷
    codes "{" ∷
    codes "#pragma omp target" ∷
    codes "for (uint64_t i = 0; i < 4; i += 1) { A[i] = i + 5; }" ∷
    codes "#pragma omp target update from(A[0:2])" ∷
    codes "print(A[1]);" ∷
    codes "}" ∷
    codes "}" ∷ []))
unfolding number_of hex_number_of number_piece sign_one sign_two sign_three changing_sign sign_at piece_at comment_end_from is_include after tokens_from word_of is_omp expression line_from clauses_from worked in_blocks typed printed undefined all_read initialized in_full run enter breaks wrong sort_of advance place_code first_broken first_wrong kind_of holds is_atomic is_target depth_of collapse_from uses_of uses_from line_fault line_breaks line_wrong line_enter line_advance line_place line_first_broken line_first_wrong piece_on_line lexemes_from
example_data = refl

example_double : tokens (lines (
    codes "uint64_t A[4];" ∷
    codes "int main(void) {" ∷
    codes "for (uint64_t i = 0; i < 4; i += 1) { A[i] = i; }" ∷
    codes "#pragma omp target map(tofrom: A[0:4])" ∷
    codes "for (uint64_t i = 0; i < 4; i += 1) { A[i] = A[i] * 2 + 1; }" ∷
    codes "for (uint64_t i = 0; i < 4; i += 1) { print(A[i]); }" ∷
    codes "}" ∷ [])) ≡ raw (lines (
    codes "uint64_t A[4];" ∷
    codes "int main(void) {" ∷
    codes "for (uint64_t i = 0; i < 4; i += 1) { A[i] = i; }" ∷
    codes "#pragma omp target map(tofrom: A[0:4])" ∷
    codes "for (uint64_t i = 0; i < 4; i += 1) { A[i] = A[i] * 2 + 1; }" ∷
    codes "for (uint64_t i = 0; i < 4; i += 1) { print(A[i]); }" ∷
    codes "}" ∷ []))
unfolding number_of hex_number_of number_piece sign_one sign_two sign_three changing_sign sign_at piece_at comment_end_from is_include after tokens_from word_of is_omp expression line_from clauses_from worked in_blocks typed printed undefined all_read initialized in_full run enter breaks wrong sort_of advance place_code first_broken first_wrong kind_of holds is_atomic is_target depth_of collapse_from uses_of uses_from line_fault line_breaks line_wrong line_enter line_advance line_place line_first_broken line_first_wrong piece_on_line lexemes_from
example_double = refl

example_halves : tokens (lines (
    codes "uint64_t A[8];" ∷
    codes "int main(void) {" ∷
    codes "#pragma omp target enter data map(to: A)" ∷
    codes "#pragma omp target map(tofrom: A[0:4]) nowait" ∷
    codes "for (uint64_t i = 0; i < 4; i += 1) { A[i] = i + 1; }" ∷
    codes "#pragma omp target map(tofrom: A[4:4]) nowait" ∷
    codes "for (uint64_t i = 4; i < 8; i += 1) { A[i] = i * 10; }" ∷
    codes "#pragma omp taskwait" ∷
    codes "#pragma omp target update from(A)" ∷
    codes "for (uint64_t i = 0; i < 8; i += 1) { print(A[i]); }" ∷
    codes "}" ∷ [])) ≡ raw (lines (
    codes "uint64_t A[8];" ∷
    codes "int main(void) {" ∷
    codes "#pragma omp target enter data map(to: A)" ∷
    codes "#pragma omp target map(tofrom: A[0:4]) nowait" ∷
    codes "for (uint64_t i = 0; i < 4; i += 1) { A[i] = i + 1; }" ∷
    codes "#pragma omp target map(tofrom: A[4:4]) nowait" ∷
    codes "for (uint64_t i = 4; i < 8; i += 1) { A[i] = i * 10; }" ∷
    codes "#pragma omp taskwait" ∷
    codes "#pragma omp target update from(A)" ∷
    codes "for (uint64_t i = 0; i < 8; i += 1) { print(A[i]); }" ∷
    codes "}" ∷ []))
unfolding number_of hex_number_of number_piece sign_one sign_two sign_three changing_sign sign_at piece_at comment_end_from is_include after tokens_from word_of is_omp expression line_from clauses_from worked in_blocks typed printed undefined all_read initialized in_full run enter breaks wrong sort_of advance place_code first_broken first_wrong kind_of holds is_atomic is_target depth_of collapse_from uses_of uses_from line_fault line_breaks line_wrong line_enter line_advance line_place line_first_broken line_first_wrong piece_on_line lexemes_from
example_halves = refl

example_e301 : tokens (lines (
    codes "uint64_t A[4];" ∷
    codes "int main(void) {" ∷
    codes "for (uint64_t i = 0; i < 4; i += 1) { A[i - 1] = i; }" ∷
    codes "}" ∷ [])) ≡ raw (lines (
    codes "uint64_t A[4];" ∷
    codes "int main(void) {" ∷
    codes "for (uint64_t i = 0; i < 4; i += 1) { A[i - 1] = i; }" ∷
    codes "}" ∷ []))
unfolding number_of hex_number_of number_piece sign_one sign_two sign_three changing_sign sign_at piece_at comment_end_from is_include after tokens_from word_of is_omp expression line_from clauses_from worked in_blocks typed printed undefined all_read initialized in_full run enter breaks wrong sort_of advance place_code first_broken first_wrong kind_of holds is_atomic is_target depth_of collapse_from uses_of uses_from line_fault line_breaks line_wrong line_enter line_advance line_place line_first_broken line_first_wrong piece_on_line lexemes_from
example_e301 = refl

example_e302 : tokens (lines (
    codes "uint64_t A[4];" ∷
    codes "int main(void) {" ∷
    codes "#pragma omp target map(to: A[1:4])" ∷
    codes "{ }" ∷
    codes "}" ∷ [])) ≡ raw (lines (
    codes "uint64_t A[4];" ∷
    codes "int main(void) {" ∷
    codes "#pragma omp target map(to: A[1:4])" ∷
    codes "{ }" ∷
    codes "}" ∷ []))
unfolding number_of hex_number_of number_piece sign_one sign_two sign_three changing_sign sign_at piece_at comment_end_from is_include after tokens_from word_of is_omp expression line_from clauses_from worked in_blocks typed printed undefined all_read initialized in_full run enter breaks wrong sort_of advance place_code first_broken first_wrong kind_of holds is_atomic is_target depth_of collapse_from uses_of uses_from line_fault line_breaks line_wrong line_enter line_advance line_place line_first_broken line_first_wrong piece_on_line lexemes_from
example_e302 = refl

example_e303 : tokens (lines (
    codes "uint64_t A[4];" ∷
    codes "int main(void) {" ∷
    codes "for (uint64_t i = 0; i < 1048577; i += 1) { A[0] = i; }" ∷
    codes "}" ∷ [])) ≡ raw (lines (
    codes "uint64_t A[4];" ∷
    codes "int main(void) {" ∷
    codes "for (uint64_t i = 0; i < 1048577; i += 1) { A[0] = i; }" ∷
    codes "}" ∷ []))
unfolding number_of hex_number_of number_piece sign_one sign_two sign_three changing_sign sign_at piece_at comment_end_from is_include after tokens_from word_of is_omp expression line_from clauses_from worked in_blocks typed printed undefined all_read initialized in_full run enter breaks wrong sort_of advance place_code first_broken first_wrong kind_of holds is_atomic is_target depth_of collapse_from uses_of uses_from line_fault line_breaks line_wrong line_enter line_advance line_place line_first_broken line_first_wrong piece_on_line lexemes_from
example_e303 = refl

example_e501 : tokens (lines (
    codes "uint64_t A[8];" ∷
    codes "int main(void) {" ∷
    codes "#pragma omp target data map(alloc: A[0:4])" ∷
    codes "{" ∷
    codes "#pragma omp target" ∷
    codes "{ A[0] = 5; }" ∷
    codes "}" ∷
    codes "}" ∷ [])) ≡ raw (lines (
    codes "uint64_t A[8];" ∷
    codes "int main(void) {" ∷
    codes "#pragma omp target data map(alloc: A[0:4])" ∷
    codes "{" ∷
    codes "#pragma omp target" ∷
    codes "{ A[0] = 5; }" ∷
    codes "}" ∷
    codes "}" ∷ []))
unfolding number_of hex_number_of number_piece sign_one sign_two sign_three changing_sign sign_at piece_at comment_end_from is_include after tokens_from word_of is_omp expression line_from clauses_from worked in_blocks typed printed undefined all_read initialized in_full run enter breaks wrong sort_of advance place_code first_broken first_wrong kind_of holds is_atomic is_target depth_of collapse_from uses_of uses_from line_fault line_breaks line_wrong line_enter line_advance line_place line_first_broken line_first_wrong piece_on_line lexemes_from
example_e501 = refl

example_e502 : tokens (lines (
    codes "uint64_t A[4];" ∷
    codes "int main(void) {" ∷
    codes "#pragma omp target exit data map(from: A)" ∷
    codes "}" ∷ [])) ≡ raw (lines (
    codes "uint64_t A[4];" ∷
    codes "int main(void) {" ∷
    codes "#pragma omp target exit data map(from: A)" ∷
    codes "}" ∷ []))
unfolding number_of hex_number_of number_piece sign_one sign_two sign_three changing_sign sign_at piece_at comment_end_from is_include after tokens_from word_of is_omp expression line_from clauses_from worked in_blocks typed printed undefined all_read initialized in_full run enter breaks wrong sort_of advance place_code first_broken first_wrong kind_of holds is_atomic is_target depth_of collapse_from uses_of uses_from line_fault line_breaks line_wrong line_enter line_advance line_place line_first_broken line_first_wrong piece_on_line lexemes_from
example_e502 = refl

example_e503 : tokens (lines (
    codes "uint64_t A[4];" ∷
    codes "int main(void) {" ∷
    codes "#pragma omp target update to(A)" ∷
    codes "}" ∷ [])) ≡ raw (lines (
    codes "uint64_t A[4];" ∷
    codes "int main(void) {" ∷
    codes "#pragma omp target update to(A)" ∷
    codes "}" ∷ []))
unfolding number_of hex_number_of number_piece sign_one sign_two sign_three changing_sign sign_at piece_at comment_end_from is_include after tokens_from word_of is_omp expression line_from clauses_from worked in_blocks typed printed undefined all_read initialized in_full run enter breaks wrong sort_of advance place_code first_broken first_wrong kind_of holds is_atomic is_target depth_of collapse_from uses_of uses_from line_fault line_breaks line_wrong line_enter line_advance line_place line_first_broken line_first_wrong piece_on_line lexemes_from
example_e503 = refl

example_e504 : tokens (lines (
    codes "uint64_t A[4];" ∷
    codes "int main(void) {" ∷
    codes "#pragma omp target map(tofrom: A[0:2])" ∷
    codes "{ A[2] = 1; }" ∷
    codes "}" ∷ [])) ≡ raw (lines (
    codes "uint64_t A[4];" ∷
    codes "int main(void) {" ∷
    codes "#pragma omp target map(tofrom: A[0:2])" ∷
    codes "{ A[2] = 1; }" ∷
    codes "}" ∷ []))
unfolding number_of hex_number_of number_piece sign_one sign_two sign_three changing_sign sign_at piece_at comment_end_from is_include after tokens_from word_of is_omp expression line_from clauses_from worked in_blocks typed printed undefined all_read initialized in_full run enter breaks wrong sort_of advance place_code first_broken first_wrong kind_of holds is_atomic is_target depth_of collapse_from uses_of uses_from line_fault line_breaks line_wrong line_enter line_advance line_place line_first_broken line_first_wrong piece_on_line lexemes_from
example_e504 = refl

example_e505 : tokens (lines (
    codes "uint64_t A[8];" ∷
    codes "int main(void) {" ∷
    codes "#pragma omp target map(tofrom: A) nowait depend(out: A[0:4])" ∷
    codes "{ A[0] = 1; }" ∷
    codes "#pragma omp target map(tofrom: A) nowait depend(in: A[2:4])" ∷
    codes "{ A[5] = A[0]; }" ∷
    codes "}" ∷ [])) ≡ raw (lines (
    codes "uint64_t A[8];" ∷
    codes "int main(void) {" ∷
    codes "#pragma omp target map(tofrom: A) nowait depend(out: A[0:4])" ∷
    codes "{ A[0] = 1; }" ∷
    codes "#pragma omp target map(tofrom: A) nowait depend(in: A[2:4])" ∷
    codes "{ A[5] = A[0]; }" ∷
    codes "}" ∷ []))
unfolding number_of hex_number_of number_piece sign_one sign_two sign_three changing_sign sign_at piece_at comment_end_from is_include after tokens_from word_of is_omp expression line_from clauses_from worked in_blocks typed printed undefined all_read initialized in_full run enter breaks wrong sort_of advance place_code first_broken first_wrong kind_of holds is_atomic is_target depth_of collapse_from uses_of uses_from line_fault line_breaks line_wrong line_enter line_advance line_place line_first_broken line_first_wrong piece_on_line lexemes_from
example_e505 = refl

example_e506 : tokens (lines (
    codes "uint64_t A[4];" ∷
    codes "int main(void) {" ∷
    codes "#pragma omp target map(to: A)" ∷
    codes "{ A[0] = 1; }" ∷
    codes "print(A[0]);" ∷
    codes "}" ∷ [])) ≡ raw (lines (
    codes "uint64_t A[4];" ∷
    codes "int main(void) {" ∷
    codes "#pragma omp target map(to: A)" ∷
    codes "{ A[0] = 1; }" ∷
    codes "print(A[0]);" ∷
    codes "}" ∷ []))
unfolding number_of hex_number_of number_piece sign_one sign_two sign_three changing_sign sign_at piece_at comment_end_from is_include after tokens_from word_of is_omp expression line_from clauses_from worked in_blocks typed printed undefined all_read initialized in_full run enter breaks wrong sort_of advance place_code first_broken first_wrong kind_of holds is_atomic is_target depth_of collapse_from uses_of uses_from line_fault line_breaks line_wrong line_enter line_advance line_place line_first_broken line_first_wrong piece_on_line lexemes_from
example_e506 = refl

example_e507 : tokens (lines (
    codes "uint64_t A[4];" ∷
    codes "int main(void) {" ∷
    codes "#pragma omp target enter data map(to: A)" ∷
    codes "A[0] = 1;" ∷
    codes "#pragma omp target map(to: A)" ∷
    codes "{ A[1] = A[0]; }" ∷
    codes "}" ∷ [])) ≡ raw (lines (
    codes "uint64_t A[4];" ∷
    codes "int main(void) {" ∷
    codes "#pragma omp target enter data map(to: A)" ∷
    codes "A[0] = 1;" ∷
    codes "#pragma omp target map(to: A)" ∷
    codes "{ A[1] = A[0]; }" ∷
    codes "}" ∷ []))
unfolding number_of hex_number_of number_piece sign_one sign_two sign_three changing_sign sign_at piece_at comment_end_from is_include after tokens_from word_of is_omp expression line_from clauses_from worked in_blocks typed printed undefined all_read initialized in_full run enter breaks wrong sort_of advance place_code first_broken first_wrong kind_of holds is_atomic is_target depth_of collapse_from uses_of uses_from line_fault line_breaks line_wrong line_enter line_advance line_place line_first_broken line_first_wrong piece_on_line lexemes_from
example_e507 = refl

example_e508 : tokens (lines (
    codes "uint64_t A[4];" ∷
    codes "uint64_t B[4];" ∷
    codes "int main(void) {" ∷
    codes "#pragma omp target map(to: A) map(from: B) nowait" ∷
    codes "for (uint64_t i = 0; i < 4; i += 1) { B[i] = A[i]; }" ∷
    codes "#pragma omp target map(to: A) nowait" ∷
    codes "{ }" ∷
    codes "}" ∷ [])) ≡ raw (lines (
    codes "uint64_t A[4];" ∷
    codes "uint64_t B[4];" ∷
    codes "int main(void) {" ∷
    codes "#pragma omp target map(to: A) map(from: B) nowait" ∷
    codes "for (uint64_t i = 0; i < 4; i += 1) { B[i] = A[i]; }" ∷
    codes "#pragma omp target map(to: A) nowait" ∷
    codes "{ }" ∷
    codes "}" ∷ []))
unfolding number_of hex_number_of number_piece sign_one sign_two sign_three changing_sign sign_at piece_at comment_end_from is_include after tokens_from word_of is_omp expression line_from clauses_from worked in_blocks typed printed undefined all_read initialized in_full run enter breaks wrong sort_of advance place_code first_broken first_wrong kind_of holds is_atomic is_target depth_of collapse_from uses_of uses_from line_fault line_breaks line_wrong line_enter line_advance line_place line_first_broken line_first_wrong piece_on_line lexemes_from
example_e508 = refl

example_e509 : tokens (lines (
    codes "uint64_t A[4];" ∷
    codes "int main(void) {" ∷
    codes "#pragma omp target enter data map(to: A) device(1)" ∷
    codes "#pragma omp target map(present, alloc: A)" ∷
    codes "{ A[0] = A[0] + 1; }" ∷
    codes "}" ∷ [])) ≡ raw (lines (
    codes "uint64_t A[4];" ∷
    codes "int main(void) {" ∷
    codes "#pragma omp target enter data map(to: A) device(1)" ∷
    codes "#pragma omp target map(present, alloc: A)" ∷
    codes "{ A[0] = A[0] + 1; }" ∷
    codes "}" ∷ []))
unfolding number_of hex_number_of number_piece sign_one sign_two sign_three changing_sign sign_at piece_at comment_end_from is_include after tokens_from word_of is_omp expression line_from clauses_from worked in_blocks typed printed undefined all_read initialized in_full run enter breaks wrong sort_of advance place_code first_broken first_wrong kind_of holds is_atomic is_target depth_of collapse_from uses_of uses_from line_fault line_breaks line_wrong line_enter line_advance line_place line_first_broken line_first_wrong piece_on_line lexemes_from
example_e509 = refl

example_caller_did_not_enter : tokens (lines (
    codes "// The routine of examples/routine.c, whose caller did not enter the data that it works on." ∷
    codes "uint64_t X[4];" ∷
    codes "uint64_t Y[4];" ∷
    codes "int main(void) {" ∷
    codes "for (uint64_t i = 0; i < 4; i += 1) { X[i] = i + 1; }" ∷
    codes "for (uint64_t step = 0; step < 3; step += 1) {" ∷
    codes "// The routine: Y becomes 3 X + Y." ∷
    codes "#pragma omp target map(present, to: X) map(present, tofrom: Y)" ∷
    codes "for (uint64_t i = 0; i < 4; i += 1) { Y[i] = 3 * X[i] + Y[i]; }" ∷
    codes "}" ∷
    codes "#pragma omp target update from(present: Y)" ∷
    codes "for (uint64_t i = 0; i < 4; i += 1) { print(Y[i]); }" ∷
    codes "#pragma omp target exit data map(release: X, Y)" ∷
    codes "}" ∷ [])) ≡ raw (lines (
    codes "// The routine of examples/routine.c, whose caller did not enter the data that it works on." ∷
    codes "uint64_t X[4];" ∷
    codes "uint64_t Y[4];" ∷
    codes "int main(void) {" ∷
    codes "for (uint64_t i = 0; i < 4; i += 1) { X[i] = i + 1; }" ∷
    codes "for (uint64_t step = 0; step < 3; step += 1) {" ∷
    codes "// The routine: Y becomes 3 X + Y." ∷
    codes "#pragma omp target map(present, to: X) map(present, tofrom: Y)" ∷
    codes "for (uint64_t i = 0; i < 4; i += 1) { Y[i] = 3 * X[i] + Y[i]; }" ∷
    codes "}" ∷
    codes "#pragma omp target update from(present: Y)" ∷
    codes "for (uint64_t i = 0; i < 4; i += 1) { print(Y[i]); }" ∷
    codes "#pragma omp target exit data map(release: X, Y)" ∷
    codes "}" ∷ []))
unfolding number_of hex_number_of number_piece sign_one sign_two sign_three changing_sign sign_at piece_at comment_end_from is_include after tokens_from word_of is_omp expression line_from clauses_from worked in_blocks typed printed undefined all_read initialized in_full run enter breaks wrong sort_of advance place_code first_broken first_wrong kind_of holds is_atomic is_target depth_of collapse_from uses_of uses_from line_fault line_breaks line_wrong line_enter line_advance line_place line_first_broken line_first_wrong piece_on_line lexemes_from
example_caller_did_not_enter = refl

example_lost_addition : tokens (lines (
    codes "uint64_t A[1];" ∷
    codes "int main(void) {" ∷
    codes "#pragma omp target enter data map(to: A)" ∷
    codes "#pragma omp target map(alloc: A) nowait" ∷
    codes "{ A[0] = A[0] + 1; }" ∷
    codes "#pragma omp target map(alloc: A) nowait" ∷
    codes "{ A[0] = A[0] + 1; }" ∷
    codes "#pragma omp taskwait" ∷
    codes "#pragma omp target update from(A)" ∷
    codes "print(A[0]);" ∷
    codes "}" ∷ [])) ≡ raw (lines (
    codes "uint64_t A[1];" ∷
    codes "int main(void) {" ∷
    codes "#pragma omp target enter data map(to: A)" ∷
    codes "#pragma omp target map(alloc: A) nowait" ∷
    codes "{ A[0] = A[0] + 1; }" ∷
    codes "#pragma omp target map(alloc: A) nowait" ∷
    codes "{ A[0] = A[0] + 1; }" ∷
    codes "#pragma omp taskwait" ∷
    codes "#pragma omp target update from(A)" ∷
    codes "print(A[0]);" ∷
    codes "}" ∷ []))
unfolding number_of hex_number_of number_piece sign_one sign_two sign_three changing_sign sign_at piece_at comment_end_from is_include after tokens_from word_of is_omp expression line_from clauses_from worked in_blocks typed printed undefined all_read initialized in_full run enter breaks wrong sort_of advance place_code first_broken first_wrong kind_of holds is_atomic is_target depth_of collapse_from uses_of uses_from line_fault line_breaks line_wrong line_enter line_advance line_place line_first_broken line_first_wrong piece_on_line lexemes_from
example_lost_addition = refl

example_routine : tokens (lines (
    codes "// A routine works on data that its caller has on the device: it says that they are present, and so copies nothing. A caller" ∷
    codes "// that did not enter them is refused." ∷
    codes "uint64_t X[4];" ∷
    codes "uint64_t Y[4];" ∷
    codes "int main(void) {" ∷
    codes "for (uint64_t i = 0; i < 4; i += 1) { X[i] = i + 1; }" ∷
    codes "#pragma omp target enter data map(to: X, Y)" ∷
    codes "for (uint64_t step = 0; step < 3; step += 1) {" ∷
    codes "// The routine: Y becomes 3 X + Y." ∷
    codes "#pragma omp target map(present, to: X) map(present, tofrom: Y)" ∷
    codes "for (uint64_t i = 0; i < 4; i += 1) { Y[i] = 3 * X[i] + Y[i]; }" ∷
    codes "}" ∷
    codes "#pragma omp target update from(present: Y)" ∷
    codes "for (uint64_t i = 0; i < 4; i += 1) { print(Y[i]); }" ∷
    codes "#pragma omp target exit data map(release: X, Y)" ∷
    codes "}" ∷ [])) ≡ raw (lines (
    codes "// A routine works on data that its caller has on the device: it says that they are present, and so copies nothing. A caller" ∷
    codes "// that did not enter them is refused." ∷
    codes "uint64_t X[4];" ∷
    codes "uint64_t Y[4];" ∷
    codes "int main(void) {" ∷
    codes "for (uint64_t i = 0; i < 4; i += 1) { X[i] = i + 1; }" ∷
    codes "#pragma omp target enter data map(to: X, Y)" ∷
    codes "for (uint64_t step = 0; step < 3; step += 1) {" ∷
    codes "// The routine: Y becomes 3 X + Y." ∷
    codes "#pragma omp target map(present, to: X) map(present, tofrom: Y)" ∷
    codes "for (uint64_t i = 0; i < 4; i += 1) { Y[i] = 3 * X[i] + Y[i]; }" ∷
    codes "}" ∷
    codes "#pragma omp target update from(present: Y)" ∷
    codes "for (uint64_t i = 0; i < 4; i += 1) { print(Y[i]); }" ∷
    codes "#pragma omp target exit data map(release: X, Y)" ∷
    codes "}" ∷ []))
unfolding number_of hex_number_of number_piece sign_one sign_two sign_three changing_sign sign_at piece_at comment_end_from is_include after tokens_from word_of is_omp expression line_from clauses_from worked in_blocks typed printed undefined all_read initialized in_full run enter breaks wrong sort_of advance place_code first_broken first_wrong kind_of holds is_atomic is_target depth_of collapse_from uses_of uses_from line_fault line_breaks line_wrong line_enter line_advance line_place line_first_broken line_first_wrong piece_on_line lexemes_from
example_routine = refl

example_stages : tokens (lines (
    codes "uint64_t A[4];" ∷
    codes "uint64_t B[4];" ∷
    codes "int main(void) {" ∷
    codes "#pragma omp target map(from: A) nowait depend(out: A)" ∷
    codes "for (uint64_t i = 0; i < 4; i += 1) { A[i] = i + 1; }" ∷
    codes "#pragma omp target map(to: A) map(from: B) nowait depend(in: A) depend(out: B)" ∷
    codes "for (uint64_t i = 0; i < 4; i += 1) { B[i] = A[i] * A[i]; }" ∷
    codes "#pragma omp taskwait" ∷
    codes "for (uint64_t i = 0; i < 4; i += 1) { print(B[i]); }" ∷
    codes "}" ∷ [])) ≡ raw (lines (
    codes "uint64_t A[4];" ∷
    codes "uint64_t B[4];" ∷
    codes "int main(void) {" ∷
    codes "#pragma omp target map(from: A) nowait depend(out: A)" ∷
    codes "for (uint64_t i = 0; i < 4; i += 1) { A[i] = i + 1; }" ∷
    codes "#pragma omp target map(to: A) map(from: B) nowait depend(in: A) depend(out: B)" ∷
    codes "for (uint64_t i = 0; i < 4; i += 1) { B[i] = A[i] * A[i]; }" ∷
    codes "#pragma omp taskwait" ∷
    codes "for (uint64_t i = 0; i < 4; i += 1) { print(B[i]); }" ∷
    codes "}" ∷ []))
unfolding number_of hex_number_of number_piece sign_one sign_two sign_three changing_sign sign_at piece_at comment_end_from is_include after tokens_from word_of is_omp expression line_from clauses_from worked in_blocks typed printed undefined all_read initialized in_full run enter breaks wrong sort_of advance place_code first_broken first_wrong kind_of holds is_atomic is_target depth_of collapse_from uses_of uses_from line_fault line_breaks line_wrong line_enter line_advance line_place line_first_broken line_first_wrong piece_on_line lexemes_from
example_stages = refl

example_stale : tokens (lines (
    codes "uint64_t A[4];" ∷
    codes "int main(void) {" ∷
    codes "for (uint64_t i = 0; i < 4; i += 1) { A[i] = i; }" ∷
    codes "#pragma omp target map(to: A[0:4])" ∷
    codes "for (uint64_t i = 0; i < 4; i += 1) { A[i] = A[i] * 2 + 1; }" ∷
    codes "for (uint64_t i = 0; i < 4; i += 1) { print(A[i]); }" ∷
    codes "}" ∷ [])) ≡ raw (lines (
    codes "uint64_t A[4];" ∷
    codes "int main(void) {" ∷
    codes "for (uint64_t i = 0; i < 4; i += 1) { A[i] = i; }" ∷
    codes "#pragma omp target map(to: A[0:4])" ∷
    codes "for (uint64_t i = 0; i < 4; i += 1) { A[i] = A[i] * 2 + 1; }" ∷
    codes "for (uint64_t i = 0; i < 4; i += 1) { print(A[i]); }" ∷
    codes "}" ∷ []))
unfolding number_of hex_number_of number_piece sign_one sign_two sign_three changing_sign sign_at piece_at comment_end_from is_include after tokens_from word_of is_omp expression line_from clauses_from worked in_blocks typed printed undefined all_read initialized in_full run enter breaks wrong sort_of advance place_code first_broken first_wrong kind_of holds is_atomic is_target depth_of collapse_from uses_of uses_from line_fault line_breaks line_wrong line_enter line_advance line_place line_first_broken line_first_wrong piece_on_line lexemes_from
example_stale = refl

example_sums : tokens (lines (
    codes "uint64_t A[8];" ∷
    codes "uint64_t S[2];" ∷
    codes "uint64_t n;" ∷
    codes "int main(void) {" ∷
    codes "n = read();" ∷
    codes "for (uint64_t i = 0; i < 8; i += 1) { A[i] = read(); }" ∷
    codes "#pragma omp target enter data map(to: A) map(alloc: S)" ∷
    codes "#pragma omp target nowait map(to: A) map(alloc: S[0:1]) depend(out: S[0:1])" ∷
    codes "{" ∷
    codes "  uint64_t sum = 0;" ∷
    codes "  for (uint64_t i = 0; i < 4; i += 1) { sum = sum + A[i] * n; }" ∷
    codes "  S[0] = sum;" ∷
    codes "}" ∷
    codes "#pragma omp target nowait map(to: A) map(alloc: S[1:1]) depend(out: S[1:1])" ∷
    codes "{" ∷
    codes "  uint64_t sum = 0;" ∷
    codes "  for (uint64_t i = 4; i < 8; i += 1) { sum = sum + A[i] * n; }" ∷
    codes "  S[1] = sum;" ∷
    codes "}" ∷
    codes "#pragma omp target update from(S[0:1]) depend(in: S[0:1])" ∷
    codes "print(S[0]);" ∷
    codes "#pragma omp taskwait" ∷
    codes "#pragma omp target exit data map(from: S) map(release: A)" ∷
    codes "print(S[0] + S[1]);" ∷
    codes "}" ∷ [])) ≡ raw (lines (
    codes "uint64_t A[8];" ∷
    codes "uint64_t S[2];" ∷
    codes "uint64_t n;" ∷
    codes "int main(void) {" ∷
    codes "n = read();" ∷
    codes "for (uint64_t i = 0; i < 8; i += 1) { A[i] = read(); }" ∷
    codes "#pragma omp target enter data map(to: A) map(alloc: S)" ∷
    codes "#pragma omp target nowait map(to: A) map(alloc: S[0:1]) depend(out: S[0:1])" ∷
    codes "{" ∷
    codes "  uint64_t sum = 0;" ∷
    codes "  for (uint64_t i = 0; i < 4; i += 1) { sum = sum + A[i] * n; }" ∷
    codes "  S[0] = sum;" ∷
    codes "}" ∷
    codes "#pragma omp target nowait map(to: A) map(alloc: S[1:1]) depend(out: S[1:1])" ∷
    codes "{" ∷
    codes "  uint64_t sum = 0;" ∷
    codes "  for (uint64_t i = 4; i < 8; i += 1) { sum = sum + A[i] * n; }" ∷
    codes "  S[1] = sum;" ∷
    codes "}" ∷
    codes "#pragma omp target update from(S[0:1]) depend(in: S[0:1])" ∷
    codes "print(S[0]);" ∷
    codes "#pragma omp taskwait" ∷
    codes "#pragma omp target exit data map(from: S) map(release: A)" ∷
    codes "print(S[0] + S[1]);" ∷
    codes "}" ∷ []))
unfolding number_of hex_number_of number_piece sign_one sign_two sign_three changing_sign sign_at piece_at comment_end_from is_include after tokens_from word_of is_omp expression line_from clauses_from worked in_blocks typed printed undefined all_read initialized in_full run enter breaks wrong sort_of advance place_code first_broken first_wrong kind_of holds is_atomic is_target depth_of collapse_from uses_of uses_from line_fault line_breaks line_wrong line_enter line_advance line_place line_first_broken line_first_wrong piece_on_line lexemes_from
example_sums = refl
