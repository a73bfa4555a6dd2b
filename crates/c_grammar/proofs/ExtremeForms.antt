-- What is answered of sources that gather the least or the greatest of numbers, by computation.
use Rattle.std.proofs.Common.{◌≡◌, ℕ, List, [], ◌∷◌, ◌++◌, Option, Some, None, refl}
use Rattle.std.specs.Prelude.{codes}
use Rattle.base.specs.declared.fault.TextFault.{TextFault}
use Rattle.base.specs.declared.fault.ReadCode.{ReadCode as Code}
use Rattle.base.specs.declared.fault.ReadCode.TheVariants.{UnknownClause}
use Rattle.c_tokens.specs.Piece.{number_of, hex_number_of, number_piece, sign_one, sign_two, sign_three, changing_sign, sign_at, format_at, piece_at, comment_end_from, is_include}
use Rattle.c_tokens.specs.Text.{after, tokens_from}
use Rattle.c_grammar.specs.Lexeme.{word_of, piece_on_line, lexemes_from}
use Rattle.c_grammar.specs.Lines.{is_omp, kind_of, holds, is_atomic, is_target, depth_of, collapse_from, uses_of, uses_from, line_fault}
use Rattle.c_grammar.specs.LineRules.{line_breaks, line_wrong, line_enter}
use Rattle.c_grammar.specs.LineMachine.{line_advance, line_place, line_first_broken, line_first_wrong}
use Rattle.c_grammar.specs.Expressions.{expression}
use Rattle.c_grammar.specs.Functions.{index_len}
use Rattle.c_grammar.specs.LineForms.{line_from}
use Rattle.c_grammar.specs.Constants.{worked, undefined}
use Rattle.c_grammar.specs.Changes.{in_full}
use Rattle.c_grammar.specs.Allocations.{all_read}
use Rattle.c_grammar.specs.Clauses.{clauses_from}
use Rattle.c_grammar.specs.Initial.{initialized}
use Rattle.c_grammar.specs.Blocks.{typed, in_blocks}
use Rattle.c_grammar.specs.Prints.{printed}
use Rattle.c_grammar.specs.Machine.{run}
use Rattle.c_grammar.specs.Rules.{enter, breaks, wrong, sort_of}
use Rattle.c_grammar.specs.Program.{advance, place_code, first_broken, first_wrong}
use Rattle.c_grammar.specs.Source.{fault_in}

abbrev at : Code → ℕ → ℕ → Option TextFault
at code line column = Some (record { code = code; line = line; column = column })

abbrev lines : List (List ℕ) → List ℕ
lines [] = []
lines (l ∷ ls) = l ++ (10 ∷ lines ls)

-- the lines behind a declaration of an array and a scalar, in main
abbrev fault : List (List ℕ) → Option TextFault
fault ls = fault_in (lines (codes "uint64_t A[4], x; int main() {" ∷ (ls ++ codes "}" ∷ [])))

of_a_scalar : fault (codes "uint64_t y = 0;" ∷ codes "#pragma omp target teams distribute parallel for reduction(max: y)" ∷ codes "for (uint64_t i = 0; i < 4; i++)" ∷ codes "if (A[i] > y) y = A[i];" ∷ []) ≡ None
unfolding index_len number_of hex_number_of number_piece sign_one sign_two sign_three changing_sign sign_at format_at piece_at comment_end_from is_include after tokens_from word_of is_omp expression line_from clauses_from worked in_blocks typed printed undefined all_read initialized in_full run enter breaks wrong sort_of advance place_code first_broken first_wrong kind_of holds is_atomic is_target depth_of collapse_from uses_of uses_from line_fault line_breaks line_wrong line_enter line_advance line_place line_first_broken line_first_wrong piece_on_line lexemes_from
of_a_scalar = refl

of_a_cell : fault (codes "uint64_t y = 0;" ∷ codes "#pragma omp target teams distribute parallel for reduction(min: A)" ∷ codes "for (uint64_t i = 0; i < 4; i++)" ∷ codes "if (A[1] >= i * 3) { A[1] = i * 3; }" ∷ []) ≡ None
unfolding index_len number_of hex_number_of number_piece sign_one sign_two sign_three changing_sign sign_at format_at piece_at comment_end_from is_include after tokens_from word_of is_omp expression line_from clauses_from worked in_blocks typed printed undefined all_read initialized in_full run enter breaks wrong sort_of advance place_code first_broken first_wrong kind_of holds is_atomic is_target depth_of collapse_from uses_of uses_from line_fault line_breaks line_wrong line_enter line_advance line_place line_first_broken line_first_wrong piece_on_line lexemes_from
of_a_cell = refl

by_a_conditional_operator : fault (codes "uint64_t y = 0;" ∷ codes "#pragma omp target teams distribute parallel for reduction(min: y)" ∷ codes "for (uint64_t i = 0; i < 4; i++)" ∷ codes "y = A[i] < y ? A[i] : y;" ∷ []) ≡ None
unfolding index_len number_of hex_number_of number_piece sign_one sign_two sign_three changing_sign sign_at format_at piece_at comment_end_from is_include after tokens_from word_of is_omp expression line_from clauses_from worked in_blocks typed printed undefined all_read initialized in_full run enter breaks wrong sort_of advance place_code first_broken first_wrong kind_of holds is_atomic is_target depth_of collapse_from uses_of uses_from line_fault line_breaks line_wrong line_enter line_advance line_place line_first_broken line_first_wrong piece_on_line lexemes_from
by_a_conditional_operator = refl

by_a_macro : fault (codes "#define MAX(a, b) ((a) > (b) ? (a) : (b))" ∷ codes "uint64_t y = 0;" ∷ codes "#pragma omp target teams distribute parallel for reduction(max: y)" ∷ codes "for (uint64_t i = 0; i < 4; i++)" ∷ codes "y = MAX(y, A[i & 3] + i);" ∷ []) ≡ None
unfolding index_len number_of hex_number_of number_piece sign_one sign_two sign_three changing_sign sign_at format_at piece_at comment_end_from is_include after tokens_from word_of is_omp expression line_from clauses_from worked in_blocks typed printed undefined all_read initialized in_full run enter breaks wrong sort_of advance place_code first_broken first_wrong kind_of holds is_atomic is_target depth_of collapse_from uses_of uses_from line_fault line_breaks line_wrong line_enter line_advance line_place line_first_broken line_first_wrong piece_on_line lexemes_from
by_a_macro = refl

by_the_other_word : fault (codes "uint64_t y = 0;" ∷ codes "#pragma omp target teams distribute parallel for reduction(max: y)" ∷ codes "for (uint64_t i = 0; i < 4; i++)" ∷ codes "if (A[i] < y) y = A[i];" ∷ []) ≡ at UnknownClause 3 50
unfolding index_len number_of hex_number_of number_piece sign_one sign_two sign_three changing_sign sign_at format_at piece_at comment_end_from is_include after tokens_from word_of is_omp expression line_from clauses_from worked in_blocks typed printed undefined all_read initialized in_full run enter breaks wrong sort_of advance place_code first_broken first_wrong kind_of holds is_atomic is_target depth_of collapse_from uses_of uses_from line_fault line_breaks line_wrong line_enter line_advance line_place line_first_broken line_first_wrong piece_on_line lexemes_from
by_the_other_word = refl

with_the_cell_on_the_other_side : fault (codes "uint64_t y = 0;" ∷ codes "#pragma omp target teams distribute parallel for reduction(max: y)" ∷ codes "for (uint64_t i = 0; i < 4; i++)" ∷ codes "if (y > A[i]) y = A[i];" ∷ []) ≡ at UnknownClause 3 50
unfolding index_len number_of hex_number_of number_piece sign_one sign_two sign_three changing_sign sign_at format_at piece_at comment_end_from is_include after tokens_from word_of is_omp expression line_from clauses_from worked in_blocks typed printed undefined all_read initialized in_full run enter breaks wrong sort_of advance place_code first_broken first_wrong kind_of holds is_atomic is_target depth_of collapse_from uses_of uses_from line_fault line_breaks line_wrong line_enter line_advance line_place line_first_broken line_first_wrong piece_on_line lexemes_from
with_the_cell_on_the_other_side = refl

by_the_other_choice : fault (codes "uint64_t y = 0;" ∷ codes "#pragma omp target teams distribute parallel for reduction(max: y)" ∷ codes "for (uint64_t i = 0; i < 4; i++)" ∷ codes "y = y > A[i] ? A[i] : y;" ∷ []) ≡ at UnknownClause 3 50
unfolding index_len number_of hex_number_of number_piece sign_one sign_two sign_three changing_sign sign_at format_at piece_at comment_end_from is_include after tokens_from word_of is_omp expression line_from clauses_from worked in_blocks typed printed undefined all_read initialized in_full run enter breaks wrong sort_of advance place_code first_broken first_wrong kind_of holds is_atomic is_target depth_of collapse_from uses_of uses_from line_fault line_breaks line_wrong line_enter line_advance line_place line_first_broken line_first_wrong piece_on_line lexemes_from
by_the_other_choice = refl

of_another_value : fault (codes "uint64_t y = 0;" ∷ codes "#pragma omp target teams distribute parallel for reduction(max: y)" ∷ codes "for (uint64_t i = 0; i < 4; i++)" ∷ codes "if (A[i] > y) y = A[0];" ∷ []) ≡ at UnknownClause 3 50
unfolding index_len number_of hex_number_of number_piece sign_one sign_two sign_three changing_sign sign_at format_at piece_at comment_end_from is_include after tokens_from word_of is_omp expression line_from clauses_from worked in_blocks typed printed undefined all_read initialized in_full run enter breaks wrong sort_of advance place_code first_broken first_wrong kind_of holds is_atomic is_target depth_of collapse_from uses_of uses_from line_fault line_breaks line_wrong line_enter line_advance line_place line_first_broken line_first_wrong piece_on_line lexemes_from
of_another_value = refl

of_its_own_number : fault (codes "uint64_t y = 0;" ∷ codes "#pragma omp target teams distribute parallel for reduction(max: y)" ∷ codes "for (uint64_t i = 0; i < 4; i++)" ∷ codes "if (A[i] + y > y) y = A[i] + y;" ∷ []) ≡ at UnknownClause 3 50
unfolding index_len number_of hex_number_of number_piece sign_one sign_two sign_three changing_sign sign_at format_at piece_at comment_end_from is_include after tokens_from word_of is_omp expression line_from clauses_from worked in_blocks typed printed undefined all_read initialized in_full run enter breaks wrong sort_of advance place_code first_broken first_wrong kind_of holds is_atomic is_target depth_of collapse_from uses_of uses_from line_fault line_breaks line_wrong line_enter line_advance line_place line_first_broken line_first_wrong piece_on_line lexemes_from
of_its_own_number = refl

with_another_store : fault (codes "uint64_t y = 0;" ∷ codes "#pragma omp target teams distribute parallel for reduction(max: y)" ∷ codes "for (uint64_t i = 0; i < 4; i++)" ∷ codes "if (A[i] > y) y = A[i]; else y = 1;" ∷ []) ≡ at UnknownClause 3 50
unfolding index_len number_of hex_number_of number_piece sign_one sign_two sign_three changing_sign sign_at format_at piece_at comment_end_from is_include after tokens_from word_of is_omp expression line_from clauses_from worked in_blocks typed printed undefined all_read initialized in_full run enter breaks wrong sort_of advance place_code first_broken first_wrong kind_of holds is_atomic is_target depth_of collapse_from uses_of uses_from line_fault line_breaks line_wrong line_enter line_advance line_place line_first_broken line_first_wrong piece_on_line lexemes_from
with_another_store = refl

by_an_operator_that_binds_less : fault (codes "uint64_t y = 0;" ∷ codes "#pragma omp target teams distribute parallel for reduction(max: y)" ∷ codes "for (uint64_t i = 0; i < 4; i++)" ∷ codes "if (y < A[i] & 3) y = A[i] & 3;" ∷ []) ≡ at UnknownClause 3 50
unfolding index_len number_of hex_number_of number_piece sign_one sign_two sign_three changing_sign sign_at format_at piece_at comment_end_from is_include after tokens_from word_of is_omp expression line_from clauses_from worked in_blocks typed printed undefined all_read initialized in_full run enter breaks wrong sort_of advance place_code first_broken first_wrong kind_of holds is_atomic is_target depth_of collapse_from uses_of uses_from line_fault line_breaks line_wrong line_enter line_advance line_place line_first_broken line_first_wrong piece_on_line lexemes_from
by_an_operator_that_binds_less = refl

that_is_read : fault (codes "uint64_t y = 0;" ∷ codes "#pragma omp target teams distribute parallel for reduction(max: y)" ∷ codes "for (uint64_t i = 0; i < 4; i++)" ∷ codes "{ if (A[i] > y) y = A[i]; A[i] = y; }" ∷ []) ≡ at UnknownClause 3 50
unfolding index_len number_of hex_number_of number_piece sign_one sign_two sign_three changing_sign sign_at format_at piece_at comment_end_from is_include after tokens_from word_of is_omp expression line_from clauses_from worked in_blocks typed printed undefined all_read initialized in_full run enter breaks wrong sort_of advance place_code first_broken first_wrong kind_of holds is_atomic is_target depth_of collapse_from uses_of uses_from line_fault line_breaks line_wrong line_enter line_advance line_place line_first_broken line_first_wrong piece_on_line lexemes_from
that_is_read = refl

by_a_sum : fault (codes "uint64_t y = 0;" ∷ codes "#pragma omp target teams distribute parallel for reduction(max: y)" ∷ codes "for (uint64_t i = 0; i < 4; i++)" ∷ codes "y += A[i];" ∷ []) ≡ at UnknownClause 3 50
unfolding index_len number_of hex_number_of number_piece sign_one sign_two sign_three changing_sign sign_at format_at piece_at comment_end_from is_include after tokens_from word_of is_omp expression line_from clauses_from worked in_blocks typed printed undefined all_read initialized in_full run enter breaks wrong sort_of advance place_code first_broken first_wrong kind_of holds is_atomic is_target depth_of collapse_from uses_of uses_from line_fault line_breaks line_wrong line_enter line_advance line_place line_first_broken line_first_wrong piece_on_line lexemes_from
by_a_sum = refl

of_a_sum : fault (codes "uint64_t y = 0;" ∷ codes "#pragma omp target teams distribute parallel for reduction(+: y)" ∷ codes "for (uint64_t i = 0; i < 4; i++)" ∷ codes "if (A[i] > y) y = A[i];" ∷ []) ≡ at UnknownClause 3 50
unfolding index_len number_of hex_number_of number_piece sign_one sign_two sign_three changing_sign sign_at format_at piece_at comment_end_from is_include after tokens_from word_of is_omp expression line_from clauses_from worked in_blocks typed printed undefined all_read initialized in_full run enter breaks wrong sort_of advance place_code first_broken first_wrong kind_of holds is_atomic is_target depth_of collapse_from uses_of uses_from line_fault line_breaks line_wrong line_enter line_advance line_place line_first_broken line_first_wrong piece_on_line lexemes_from
of_a_sum = refl

by_another_word : fault (codes "uint64_t y = 0;" ∷ codes "#pragma omp target teams distribute parallel for reduction(maximum: y)" ∷ codes "for (uint64_t i = 0; i < 4; i++)" ∷ codes "if (A[i] > y) y = A[i];" ∷ []) ≡ at UnknownClause 3 50
unfolding index_len number_of hex_number_of number_piece sign_one sign_two sign_three changing_sign sign_at format_at piece_at comment_end_from is_include after tokens_from word_of is_omp expression line_from clauses_from worked in_blocks typed printed undefined all_read initialized in_full run enter breaks wrong sort_of advance place_code first_broken first_wrong kind_of holds is_atomic is_target depth_of collapse_from uses_of uses_from line_fault line_breaks line_wrong line_enter line_advance line_place line_first_broken line_first_wrong piece_on_line lexemes_from
by_another_word = refl

atomic_compare : fault (codes "#pragma omp atomic compare" ∷ codes "if (x > A[0]) { A[0] = x; }" ∷ []) ≡ None
unfolding index_len number_of hex_number_of number_piece sign_one sign_two sign_three changing_sign sign_at format_at piece_at comment_end_from is_include after tokens_from word_of is_omp expression line_from clauses_from worked in_blocks typed printed undefined all_read initialized in_full run enter breaks wrong sort_of advance place_code first_broken first_wrong kind_of holds is_atomic is_target depth_of collapse_from uses_of uses_from line_fault line_breaks line_wrong line_enter line_advance line_place line_first_broken line_first_wrong piece_on_line lexemes_from
atomic_compare = refl

atomic_compare_with_else : fault (codes "#pragma omp atomic compare" ∷ codes "if (x > A[0]) { A[0] = x; } else { A[0] = A[0]; }" ∷ []) ≡ at UnknownClause 2 20
unfolding index_len number_of hex_number_of number_piece sign_one sign_two sign_three changing_sign sign_at format_at piece_at comment_end_from is_include after tokens_from word_of is_omp expression line_from clauses_from worked in_blocks typed printed undefined all_read initialized in_full run enter breaks wrong sort_of advance place_code first_broken first_wrong kind_of holds is_atomic is_target depth_of collapse_from uses_of uses_from line_fault line_breaks line_wrong line_enter line_advance line_place line_first_broken line_first_wrong piece_on_line lexemes_from
atomic_compare_with_else = refl

atomic_compare_before_a_store : fault (codes "#pragma omp atomic compare" ∷ codes "A[0] = x;" ∷ []) ≡ at UnknownClause 2 20
unfolding index_len number_of hex_number_of number_piece sign_one sign_two sign_three changing_sign sign_at format_at piece_at comment_end_from is_include after tokens_from word_of is_omp expression line_from clauses_from worked in_blocks typed printed undefined all_read initialized in_full run enter breaks wrong sort_of advance place_code first_broken first_wrong kind_of holds is_atomic is_target depth_of collapse_from uses_of uses_from line_fault line_breaks line_wrong line_enter line_advance line_place line_first_broken line_first_wrong piece_on_line lexemes_from
atomic_compare_before_a_store = refl

atomic_update_before_an_if : fault (codes "#pragma omp atomic update" ∷ codes "if (x > A[0]) { A[0] = x; }" ∷ []) ≡ at UnknownClause 2 26
unfolding index_len number_of hex_number_of number_piece sign_one sign_two sign_three changing_sign sign_at format_at piece_at comment_end_from is_include after tokens_from word_of is_omp expression line_from clauses_from worked in_blocks typed printed undefined all_read initialized in_full run enter breaks wrong sort_of advance place_code first_broken first_wrong kind_of holds is_atomic is_target depth_of collapse_from uses_of uses_from line_fault line_breaks line_wrong line_enter line_advance line_place line_first_broken line_first_wrong piece_on_line lexemes_from
atomic_update_before_an_if = refl
