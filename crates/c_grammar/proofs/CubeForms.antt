-- What is answered of sources with arrays of three dimensions, by computation.
use Rattle.std.proofs.Common.{◌≡◌, ℕ, List, [], ◌∷◌, ◌++◌, Option, Some, None, refl}
use Rattle.std.specs.Prelude.{codes}
use Rattle.base.specs.declared.fault.TextFault.{TextFault}
use Rattle.base.specs.declared.fault.ReadCode.{ReadCode as Code}
use Rattle.base.specs.declared.fault.ReadCode.TheVariants.{Unexpected, Undeclared}
use Rattle.c_tokens.specs.Piece.{number_of, hex_number_of, number_piece, sign_one, sign_two, sign_three, changing_sign, sign_at, format_at, piece_at, comment_end_from, is_include}
use Rattle.c_tokens.specs.Text.{after, tokens_from}
use Rattle.c_grammar.specs.Lexeme.{word_of, piece_on_line, lexemes_from}
use Rattle.c_grammar.specs.Lines.{is_omp, kind_of, holds, is_atomic, is_target, depth_of, collapse_from, uses_of, uses_from, line_fault}
use Rattle.c_grammar.specs.LineRules.{line_breaks, line_wrong, line_enter}
use Rattle.c_grammar.specs.LineMachine.{line_advance, line_place, line_first_broken, line_first_wrong}
use Rattle.c_grammar.specs.Expressions.{expression}
use Rattle.c_grammar.specs.Functions.{index_len}
use Rattle.c_grammar.specs.Grids.{index_from}
use Rattle.c_grammar.specs.LineForms.{line_from}
use Rattle.c_grammar.specs.Constants.{worked, undefined}
use Rattle.c_grammar.specs.Changes.{in_full}
use Rattle.c_grammar.specs.Allocations.{all_read}
use Rattle.c_grammar.specs.Clauses.{clauses_from}
use Rattle.c_grammar.specs.Initial.{initialized}
use Rattle.c_grammar.specs.Blocks.{typed, in_blocks}
use Rattle.c_grammar.specs.Prints.{printed}
use Rattle.c_grammar.specs.Machine.{run}
use Rattle.c_grammar.specs.Rules.{enter, breaks, wrong, sort_of}
use Rattle.c_grammar.specs.Program.{advance, place_code, first_broken, first_wrong}
use Rattle.c_grammar.specs.Source.{fault_in}

abbrev at : Code → ℕ → ℕ → Option TextFault
at code line column = Some (record { code = code; line = line; column = column })

abbrev lines : List (List ℕ) → List ℕ
lines [] = []
lines (l ∷ ls) = l ++ (10 ∷ lines ls)

-- the lines behind a declaration of an array of three dimensions and a scalar, in main
abbrev fault : List (List ℕ) → Option TextFault
fault ls = fault_in (lines (codes "uint64_t A[4][1 + 1][8], x; int main() {" ∷ (ls ++ codes "}" ∷ [])))

cells : fault (codes "A[3][1][7] = A[0][0][0] + 1;" ∷ []) ≡ None
unfolding index_from index_len number_of hex_number_of number_piece sign_one sign_two sign_three changing_sign sign_at format_at piece_at comment_end_from is_include after tokens_from word_of is_omp expression line_from clauses_from worked in_blocks typed printed undefined all_read initialized in_full run enter breaks wrong sort_of advance place_code first_broken first_wrong kind_of holds is_atomic is_target depth_of collapse_from uses_of uses_from line_fault line_breaks line_wrong line_enter line_advance line_place line_first_broken line_first_wrong piece_on_line lexemes_from
cells = refl

by_loops : fault (codes "for (uint64_t i = 1; i < 4; i++) for (uint64_t j = 0; j < 2; j++) for (uint64_t k = 1; k < 8; k++) A[i][j][k] = A[i - 1][1 - j][k - 1];" ∷ []) ≡ None
unfolding index_from index_len number_of hex_number_of number_piece sign_one sign_two sign_three changing_sign sign_at format_at piece_at comment_end_from is_include after tokens_from word_of is_omp expression line_from clauses_from worked in_blocks typed printed undefined all_read initialized in_full run enter breaks wrong sort_of advance place_code first_broken first_wrong kind_of holds is_atomic is_target depth_of collapse_from uses_of uses_from line_fault line_breaks line_wrong line_enter line_advance line_place line_first_broken line_first_wrong piece_on_line lexemes_from
by_loops = refl

a_cell_in_a_subscript : fault (codes "A[A[1][1][2] % 4][1][7] = 2;" ∷ []) ≡ None
unfolding index_from index_len number_of hex_number_of number_piece sign_one sign_two sign_three changing_sign sign_at format_at piece_at comment_end_from is_include after tokens_from word_of is_omp expression line_from clauses_from worked in_blocks typed printed undefined all_read initialized in_full run enter breaks wrong sort_of advance place_code first_broken first_wrong kind_of holds is_atomic is_target depth_of collapse_from uses_of uses_from line_fault line_breaks line_wrong line_enter line_advance line_place line_first_broken line_first_wrong piece_on_line lexemes_from
a_cell_in_a_subscript = refl

behind_the_second : fault (codes "A[0][2][1] = 1;" ∷ []) ≡ at Unexpected 2 1
unfolding index_from index_len number_of hex_number_of number_piece sign_one sign_two sign_three changing_sign sign_at format_at piece_at comment_end_from is_include after tokens_from word_of is_omp expression line_from clauses_from worked in_blocks typed printed undefined all_read initialized in_full run enter breaks wrong sort_of advance place_code first_broken first_wrong kind_of holds is_atomic is_target depth_of collapse_from uses_of uses_from line_fault line_breaks line_wrong line_enter line_advance line_place line_first_broken line_first_wrong piece_on_line lexemes_from
behind_the_second = refl

behind_the_third : fault (codes "A[0][1][8] = 1;" ∷ []) ≡ at Unexpected 2 8
unfolding index_from index_len number_of hex_number_of number_piece sign_one sign_two sign_three changing_sign sign_at format_at piece_at comment_end_from is_include after tokens_from word_of is_omp expression line_from clauses_from worked in_blocks typed printed undefined all_read initialized in_full run enter breaks wrong sort_of advance place_code first_broken first_wrong kind_of holds is_atomic is_target depth_of collapse_from uses_of uses_from line_fault line_breaks line_wrong line_enter line_advance line_place line_first_broken line_first_wrong piece_on_line lexemes_from
behind_the_third = refl

two_subscripts : fault (codes "A[0][1] = 1;" ∷ []) ≡ at Unexpected 2 1
unfolding index_from index_len number_of hex_number_of number_piece sign_one sign_two sign_three changing_sign sign_at format_at piece_at comment_end_from is_include after tokens_from word_of is_omp expression line_from clauses_from worked in_blocks typed printed undefined all_read initialized in_full run enter breaks wrong sort_of advance place_code first_broken first_wrong kind_of holds is_atomic is_target depth_of collapse_from uses_of uses_from line_fault line_breaks line_wrong line_enter line_advance line_place line_first_broken line_first_wrong piece_on_line lexemes_from
two_subscripts = refl

two_subscripts_of_two_dimensions : fault (codes "x = A[0][5] + 1;" ∷ []) ≡ at Undeclared 2 5
unfolding index_from index_len number_of hex_number_of number_piece sign_one sign_two sign_three changing_sign sign_at format_at piece_at comment_end_from is_include after tokens_from word_of is_omp expression line_from clauses_from worked in_blocks typed printed undefined all_read initialized in_full run enter breaks wrong sort_of advance place_code first_broken first_wrong kind_of holds is_atomic is_target depth_of collapse_from uses_of uses_from line_fault line_breaks line_wrong line_enter line_advance line_place line_first_broken line_first_wrong piece_on_line lexemes_from
two_subscripts_of_two_dimensions = refl

one_subscript : fault (codes "A[1] = 1;" ∷ []) ≡ at Unexpected 2 1
unfolding index_from index_len number_of hex_number_of number_piece sign_one sign_two sign_three changing_sign sign_at format_at piece_at comment_end_from is_include after tokens_from word_of is_omp expression line_from clauses_from worked in_blocks typed printed undefined all_read initialized in_full run enter breaks wrong sort_of advance place_code first_broken first_wrong kind_of holds is_atomic is_target depth_of collapse_from uses_of uses_from line_fault line_breaks line_wrong line_enter line_advance line_place line_first_broken line_first_wrong piece_on_line lexemes_from
one_subscript = refl

four_subscripts : fault (codes "A[1][1][1][0] = 1;" ∷ []) ≡ at Unexpected 2 11
unfolding index_from index_len number_of hex_number_of number_piece sign_one sign_two sign_three changing_sign sign_at format_at piece_at comment_end_from is_include after tokens_from word_of is_omp expression line_from clauses_from worked in_blocks typed printed undefined all_read initialized in_full run enter breaks wrong sort_of advance place_code first_broken first_wrong kind_of holds is_atomic is_target depth_of collapse_from uses_of uses_from line_fault line_breaks line_wrong line_enter line_advance line_place line_first_broken line_first_wrong piece_on_line lexemes_from
four_subscripts = refl

rows : fault (codes "#pragma omp target map(tofrom: A[1:2][0:2][0:8])" ∷ codes "{ A[1][0][3] = 2; }" ∷ codes "#pragma omp target update from(A[1:1][0:2])" ∷ codes "#pragma omp target update from(A[1:1])" ∷ []) ≡ None
unfolding index_from index_len number_of hex_number_of number_piece sign_one sign_two sign_three changing_sign sign_at format_at piece_at comment_end_from is_include after tokens_from word_of is_omp expression line_from clauses_from worked in_blocks typed printed undefined all_read initialized in_full run enter breaks wrong sort_of advance place_code first_broken first_wrong kind_of holds is_atomic is_target depth_of collapse_from uses_of uses_from line_fault line_breaks line_wrong line_enter line_advance line_place line_first_broken line_first_wrong piece_on_line lexemes_from
rows = refl

rows_of_a_loop : fault (codes "#pragma omp target data map(to: A)" ∷ codes "for (uint64_t i = 0; i < 3; i++) {" ∷ codes "#pragma omp target update to(A[i + 1:1][0:2][0:8])" ∷ codes "}" ∷ []) ≡ None
unfolding index_from index_len number_of hex_number_of number_piece sign_one sign_two sign_three changing_sign sign_at format_at piece_at comment_end_from is_include after tokens_from word_of is_omp expression line_from clauses_from worked in_blocks typed printed undefined all_read initialized in_full run enter breaks wrong sort_of advance place_code first_broken first_wrong kind_of holds is_atomic is_target depth_of collapse_from uses_of uses_from line_fault line_breaks line_wrong line_enter line_advance line_place line_first_broken line_first_wrong piece_on_line lexemes_from
rows_of_a_loop = refl

part_of_the_second : fault (codes "#pragma omp target map(tofrom: A[1:2][0:1][0:8])" ∷ codes "{ A[1][0][0] = 2; }" ∷ []) ≡ at Unexpected 2 38
unfolding index_from index_len number_of hex_number_of number_piece sign_one sign_two sign_three changing_sign sign_at format_at piece_at comment_end_from is_include after tokens_from word_of is_omp expression line_from clauses_from worked in_blocks typed printed undefined all_read initialized in_full run enter breaks wrong sort_of advance place_code first_broken first_wrong kind_of holds is_atomic is_target depth_of collapse_from uses_of uses_from line_fault line_breaks line_wrong line_enter line_advance line_place line_first_broken line_first_wrong piece_on_line lexemes_from
part_of_the_second = refl

the_third_for_the_second : fault (codes "#pragma omp target map(tofrom: A[1:2][0:8])" ∷ codes "{ A[1][0][0] = 2; }" ∷ []) ≡ at Unexpected 2 38
unfolding index_from index_len number_of hex_number_of number_piece sign_one sign_two sign_three changing_sign sign_at format_at piece_at comment_end_from is_include after tokens_from word_of is_omp expression line_from clauses_from worked in_blocks typed printed undefined all_read initialized in_full run enter breaks wrong sort_of advance place_code first_broken first_wrong kind_of holds is_atomic is_target depth_of collapse_from uses_of uses_from line_fault line_breaks line_wrong line_enter line_advance line_place line_first_broken line_first_wrong piece_on_line lexemes_from
the_third_for_the_second = refl

part_of_the_third : fault (codes "#pragma omp target map(tofrom: A[1:2][0:2][0:4])" ∷ codes "{ A[1][0][0] = 2; }" ∷ []) ≡ at Unexpected 2 43
unfolding index_from index_len number_of hex_number_of number_piece sign_one sign_two sign_three changing_sign sign_at format_at piece_at comment_end_from is_include after tokens_from word_of is_omp expression line_from clauses_from worked in_blocks typed printed undefined all_read initialized in_full run enter breaks wrong sort_of advance place_code first_broken first_wrong kind_of holds is_atomic is_target depth_of collapse_from uses_of uses_from line_fault line_breaks line_wrong line_enter line_advance line_place line_first_broken line_first_wrong piece_on_line lexemes_from
part_of_the_third = refl
