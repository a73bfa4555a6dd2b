-- What is answered of sources with loops whose bounds name loops around, and what they are written out as, by computation.
use Rattle.std.proofs.Common.{◌≡◌, ℕ, List, [], ◌∷◌, ◌++◌, map, Option, Some, None, refl}
use Rattle.std.specs.Prelude.{codes}
use Rattle.base.specs.declared.fault.TextFault.{TextFault}
use Rattle.base.specs.declared.fault.ReadCode.{ReadCode as Code}
use Rattle.base.specs.declared.fault.ReadCode.TheVariants.{Unexpected, DirectiveUnderIf, LoopNameAssigned, BadOperand}
use Rattle.c_tokens.specs.Piece.{number_of, hex_number_of, number_piece, sign_one, sign_two, sign_three, changing_sign, sign_at, format_at, piece_at, comment_end_from, is_include}
use Rattle.c_tokens.specs.Text.{after, tokens_from}
use Rattle.c_grammar.specs.Lexeme.{word_of, piece_on_line, lexemes_from}
use Rattle.c_grammar.specs.Lines.{is_omp, kind_of, holds, is_atomic, is_target, depth_of, collapse_from, uses_of, uses_from, line_fault}
use Rattle.c_grammar.specs.LineRules.{line_breaks, line_wrong, line_enter}
use Rattle.c_grammar.specs.LineMachine.{line_advance, line_place, line_first_broken, line_first_wrong}
use Rattle.c_grammar.specs.Expressions.{expression}
use Rattle.c_grammar.specs.Functions.{called, defined, arguments, index_len}
use Rattle.c_grammar.specs.FunctionHeads.{parameters}
use Rattle.c_grammar.specs.LineForms.{line_from}
use Rattle.c_grammar.specs.Constants.{worked, undefined}
use Rattle.c_grammar.specs.Changes.{in_full}
use Rattle.c_grammar.specs.Allocations.{all_read}
use Rattle.c_grammar.specs.Clauses.{clauses_from}
use Rattle.c_grammar.specs.Initial.{initialized}
use Rattle.c_grammar.specs.Blocks.{typed, in_blocks}
use Rattle.c_grammar.specs.Prints.{printed}
use Rattle.c_grammar.specs.Machine.{run}
use Rattle.c_grammar.specs.Rules.{enter, breaks, wrong, sort_of}
use Rattle.c_grammar.specs.Program.{advance, place_code, first_broken, first_wrong}
use Rattle.c_grammar.specs.Terminal.{Terminal}
use Rattle.c_grammar.specs.Source.{fault_in, items_of}

abbrev at : Code → ℕ → ℕ → Option TextFault
at code line column = Some (record { code = code; line = line; column = column })

abbrev lines : List (List ℕ) → List ℕ
lines [] = []
lines (l ∷ ls) = l ++ (10 ∷ lines ls)

-- the lines of main, behind the declarations of an array and two scalars
abbrev source : List (List ℕ) → List ℕ
source ls = lines (codes "uint64_t A[16], x, y; int main() {" ∷ (ls ++ codes "}" ∷ []))

abbrev fault : List (List ℕ) → Option TextFault
fault ls = fault_in (source ls)

abbrev tokens : List (List ℕ) → List Terminal
tokens ls = map (λ i. i.terminal) (items_of (source ls))

above : tokens (codes "for (uint64_t i = 0; i < 8; i++) for (uint64_t j = i + 1; j < 8; j++) x = j;" ∷ []) ≡ tokens (codes "for (uint64_t i = 0; i < 8; i += 1) { for (uint64_t j = 1; j < 8; j += 1) { if (j >= i + 1) { x = j; } } }" ∷ [])
unfolding called defined parameters arguments index_len number_of hex_number_of number_piece sign_one sign_two sign_three changing_sign sign_at format_at piece_at comment_end_from is_include after tokens_from word_of is_omp expression line_from clauses_from worked in_blocks typed printed undefined all_read initialized in_full run enter breaks wrong sort_of advance place_code first_broken first_wrong kind_of holds is_atomic is_target depth_of collapse_from uses_of uses_from line_fault line_breaks line_wrong line_enter line_advance line_place line_first_broken line_first_wrong piece_on_line lexemes_from
above = refl

below : tokens (codes "for (uint64_t i = 0; i < 8; i++) for (uint64_t j = 0; j < i; ++j) x = j;" ∷ []) ≡ tokens (codes "for (uint64_t i = 0; i < 8; i += 1) { for (uint64_t j = 0; j < 7; j += 1) { if (j < i) { x = j; } } }" ∷ [])
unfolding called defined parameters arguments index_len number_of hex_number_of number_piece sign_one sign_two sign_three changing_sign sign_at format_at piece_at comment_end_from is_include after tokens_from word_of is_omp expression line_from clauses_from worked in_blocks typed printed undefined all_read initialized in_full run enter breaks wrong sort_of advance place_code first_broken first_wrong kind_of holds is_atomic is_target depth_of collapse_from uses_of uses_from line_fault line_breaks line_wrong line_enter line_advance line_place line_first_broken line_first_wrong piece_on_line lexemes_from
below = refl

up_to_it : tokens (codes "for (uint64_t i = 0; i < 8; i++) for (uint64_t j = 0; j <= i; j += 2) x = j;" ∷ []) ≡ tokens (codes "for (uint64_t i = 0; i < 8; i += 1) { for (uint64_t j = 0; j < 8; j += 2) { if (j <= i) { x = j; } } }" ∷ [])
unfolding called defined parameters arguments index_len number_of hex_number_of number_piece sign_one sign_two sign_three changing_sign sign_at format_at piece_at comment_end_from is_include after tokens_from word_of is_omp expression line_from clauses_from worked in_blocks typed printed undefined all_read initialized in_full run enter breaks wrong sort_of advance place_code first_broken first_wrong kind_of holds is_atomic is_target depth_of collapse_from uses_of uses_from line_fault line_breaks line_wrong line_enter line_advance line_place line_first_broken line_first_wrong piece_on_line lexemes_from
up_to_it = refl

in_a_band : tokens (codes "for (uint64_t i = 0; i < 8; i++) for (uint64_t j = i; j < 3 + i; j++) x = j;" ∷ []) ≡ tokens (codes "for (uint64_t i = 0; i < 8; i += 1) { for (uint64_t j = 0; j < 10; j += 1) { if (j >= i && j < 3 + i) { x = j; } } }" ∷ [])
unfolding called defined parameters arguments index_len number_of hex_number_of number_piece sign_one sign_two sign_three changing_sign sign_at format_at piece_at comment_end_from is_include after tokens_from word_of is_omp expression line_from clauses_from worked in_blocks typed printed undefined all_read initialized in_full run enter breaks wrong sort_of advance place_code first_broken first_wrong kind_of holds is_atomic is_target depth_of collapse_from uses_of uses_from line_fault line_breaks line_wrong line_enter line_advance line_place line_first_broken line_first_wrong piece_on_line lexemes_from
in_a_band = refl

beside_the_first : tokens (codes "for (uint64_t i = 2; i <= 8; i += 3) for (uint64_t j = i - 2; j <= i; j++) x = j;" ∷ []) ≡ tokens (codes "for (uint64_t i = 2; i < 9; i += 3) { for (uint64_t j = 0; j < 9; j += 1) { if (j >= i - 2 && j <= i) { x = j; } } }" ∷ [])
unfolding called defined parameters arguments index_len number_of hex_number_of number_piece sign_one sign_two sign_three changing_sign sign_at format_at piece_at comment_end_from is_include after tokens_from word_of is_omp expression line_from clauses_from worked in_blocks typed printed undefined all_read initialized in_full run enter breaks wrong sort_of advance place_code first_broken first_wrong kind_of holds is_atomic is_target depth_of collapse_from uses_of uses_from line_fault line_breaks line_wrong line_enter line_advance line_place line_first_broken line_first_wrong piece_on_line lexemes_from
beside_the_first = refl

shorter_each_time : tokens (codes "for (uint64_t i = 0; i < 8; i++) for (uint64_t j = 0; j < 8 - i - 1; j++) x = j;" ∷ []) ≡ tokens (codes "for (uint64_t i = 0; i < 8; i += 1) { for (uint64_t j = 0; j < 7; j += 1) { if (j < 8 - i - 1) { x = j; } } }" ∷ [])
unfolding called defined parameters arguments index_len number_of hex_number_of number_piece sign_one sign_two sign_three changing_sign sign_at format_at piece_at comment_end_from is_include after tokens_from word_of is_omp expression line_from clauses_from worked in_blocks typed printed undefined all_read initialized in_full run enter breaks wrong sort_of advance place_code first_broken first_wrong kind_of holds is_atomic is_target depth_of collapse_from uses_of uses_from line_fault line_breaks line_wrong line_enter line_advance line_place line_first_broken line_first_wrong piece_on_line lexemes_from
shorter_each_time = refl

of_declared_names : tokens (codes "int i, j; for (i = 0; i < 8; i++) { for (j = i; j < 9 - 1; j++) { x = j; } y = x; }" ∷ []) ≡ tokens (codes "for (uint64_t i = 0; i < 8; i += 1) { for (uint64_t j = 0; j < 8; j += 1) { if (j >= i) { x = j; } } y = x; }" ∷ [])
unfolding called defined parameters arguments index_len number_of hex_number_of number_piece sign_one sign_two sign_three changing_sign sign_at format_at piece_at comment_end_from is_include after tokens_from word_of is_omp expression line_from clauses_from worked in_blocks typed printed undefined all_read initialized in_full run enter breaks wrong sort_of advance place_code first_broken first_wrong kind_of holds is_atomic is_target depth_of collapse_from uses_of uses_from line_fault line_breaks line_wrong line_enter line_advance line_place line_first_broken line_first_wrong piece_on_line lexemes_from
of_declared_names = refl

three : tokens (codes "for (uint64_t i = 0; i < 4; i++) for (uint64_t j = i + 1; j < 6; j++) for (uint64_t k = i; k < j; k++) x = k;" ∷ []) ≡ tokens (codes "for (uint64_t i = 0; i < 4; i += 1) { for (uint64_t j = 1; j < 6; j += 1) { if (j >= i + 1) { for (uint64_t k = 0; k < 5; k += 1) { if (k >= i && k < j) { x = k; } } } } }" ∷ [])
unfolding called defined parameters arguments index_len number_of hex_number_of number_piece sign_one sign_two sign_three changing_sign sign_at format_at piece_at comment_end_from is_include after tokens_from word_of is_omp expression line_from clauses_from worked in_blocks typed printed undefined all_read initialized in_full run enter breaks wrong sort_of advance place_code first_broken first_wrong kind_of holds is_atomic is_target depth_of collapse_from uses_of uses_from line_fault line_breaks line_wrong line_enter line_advance line_place line_first_broken line_first_wrong piece_on_line lexemes_from
three = refl

side_by_side : tokens (codes "for (uint64_t i = 0; i < 8; i++) { for (uint64_t j = i; j < 8; j++) x = j; for (uint64_t j = 0; j < i; j++) x = j; }" ∷ []) ≡ tokens (codes "for (uint64_t i = 0; i < 8; i += 1) { for (uint64_t j = 0; j < 8; j += 1) { if (j >= i) { x = j; } } for (uint64_t j = 0; j < 7; j += 1) { if (j < i) { x = j; } } }" ∷ [])
unfolding called defined parameters arguments index_len number_of hex_number_of number_piece sign_one sign_two sign_three changing_sign sign_at format_at piece_at comment_end_from is_include after tokens_from word_of is_omp expression line_from clauses_from worked in_blocks typed printed undefined all_read initialized in_full run enter breaks wrong sort_of advance place_code first_broken first_wrong kind_of holds is_atomic is_target depth_of collapse_from uses_of uses_from line_fault line_breaks line_wrong line_enter line_advance line_place line_first_broken line_first_wrong piece_on_line lexemes_from
side_by_side = refl

without_turns : tokens (codes "for (uint64_t i = 4; i < 4; i++) for (uint64_t j = 6; j < i; j++) x = j;" ∷ []) ≡ tokens (codes "for (uint64_t i = 4; i < 4; i += 1) { for (uint64_t j = 6; j < 6; j += 1) { if (j < i) { x = j; } } }" ∷ [])
unfolding called defined parameters arguments index_len number_of hex_number_of number_piece sign_one sign_two sign_three changing_sign sign_at format_at piece_at comment_end_from is_include after tokens_from word_of is_omp expression line_from clauses_from worked in_blocks typed printed undefined all_read initialized in_full run enter breaks wrong sort_of advance place_code first_broken first_wrong kind_of holds is_atomic is_target depth_of collapse_from uses_of uses_from line_fault line_breaks line_wrong line_enter line_advance line_place line_first_broken line_first_wrong piece_on_line lexemes_from
without_turns = refl

with_a_while : tokens (codes "for (uint64_t i = 0; i < 8; i++) for (uint64_t j = i; j < 8; j++) { if (y) continue; x = 1; }" ∷ []) ≡ tokens (codes "for (uint64_t i = 0; i < 8; i += 1) { for (uint64_t j = 0; j < 8; j += 1) { if (j >= i) { if (y) { } else { x = 1; } } } }" ∷ [])
unfolding called defined parameters arguments index_len number_of hex_number_of number_piece sign_one sign_two sign_three changing_sign sign_at format_at piece_at comment_end_from is_include after tokens_from word_of is_omp expression line_from clauses_from worked in_blocks typed printed undefined all_read initialized in_full run enter breaks wrong sort_of advance place_code first_broken first_wrong kind_of holds is_atomic is_target depth_of collapse_from uses_of uses_from line_fault line_breaks line_wrong line_enter line_advance line_place line_first_broken line_first_wrong piece_on_line lexemes_from
with_a_while = refl

not_equal : tokens (codes "for (uint64_t i = 0; i != 8; i++) x = i;" ∷ []) ≡ tokens (codes "for (uint64_t i = 0; i < 8; i += 1) { x = i; }" ∷ [])
unfolding called defined parameters arguments index_len number_of hex_number_of number_piece sign_one sign_two sign_three changing_sign sign_at format_at piece_at comment_end_from is_include after tokens_from word_of is_omp expression line_from clauses_from worked in_blocks typed printed undefined all_read initialized in_full run enter breaks wrong sort_of advance place_code first_broken first_wrong kind_of holds is_atomic is_target depth_of collapse_from uses_of uses_from line_fault line_breaks line_wrong line_enter line_advance line_place line_first_broken line_first_wrong piece_on_line lexemes_from
not_equal = refl

not_equal_by_more : tokens (codes "for (uint64_t i = 2; i != 9 - 1; i += 3) x = i;" ∷ []) ≡ tokens (codes "for (uint64_t i = 2; i < 8; i += 3) { x = i; }" ∷ [])
unfolding called defined parameters arguments index_len number_of hex_number_of number_piece sign_one sign_two sign_three changing_sign sign_at format_at piece_at comment_end_from is_include after tokens_from word_of is_omp expression line_from clauses_from worked in_blocks typed printed undefined all_read initialized in_full run enter breaks wrong sort_of advance place_code first_broken first_wrong kind_of holds is_atomic is_target depth_of collapse_from uses_of uses_from line_fault line_breaks line_wrong line_enter line_advance line_place line_first_broken line_first_wrong piece_on_line lexemes_from
not_equal_by_more = refl

not_equal_to_a_name : tokens (codes "for (uint64_t i = 0; i < 8; i++) for (uint64_t j = 0; j != i; j++) x = j;" ∷ []) ≡ tokens (codes "for (uint64_t i = 0; i < 8; i += 1) { for (uint64_t j = 0; j < 7; j += 1) { if (j < i) { x = j; } } }" ∷ [])
unfolding called defined parameters arguments index_len number_of hex_number_of number_piece sign_one sign_two sign_three changing_sign sign_at format_at piece_at comment_end_from is_include after tokens_from word_of is_omp expression line_from clauses_from worked in_blocks typed printed undefined all_read initialized in_full run enter breaks wrong sort_of advance place_code first_broken first_wrong kind_of holds is_atomic is_target depth_of collapse_from uses_of uses_from line_fault line_breaks line_wrong line_enter line_advance line_place line_first_broken line_first_wrong piece_on_line lexemes_from
not_equal_to_a_name = refl

passes_its_limit : fault (codes "for (uint64_t i = 0; i != 8; i += 3) x = i;" ∷ []) ≡ at Unexpected 2 24
unfolding called defined parameters arguments index_len number_of hex_number_of number_piece sign_one sign_two sign_three changing_sign sign_at format_at piece_at comment_end_from is_include after tokens_from word_of is_omp expression line_from clauses_from worked in_blocks typed printed undefined all_read initialized in_full run enter breaks wrong sort_of advance place_code first_broken first_wrong kind_of holds is_atomic is_target depth_of collapse_from uses_of uses_from line_fault line_breaks line_wrong line_enter line_advance line_place line_first_broken line_first_wrong piece_on_line lexemes_from
passes_its_limit = refl

begins_behind_it : fault (codes "for (uint64_t i = 9; i != 8; i++) x = i;" ∷ []) ≡ at Unexpected 2 24
unfolding called defined parameters arguments index_len number_of hex_number_of number_piece sign_one sign_two sign_three changing_sign sign_at format_at piece_at comment_end_from is_include after tokens_from word_of is_omp expression line_from clauses_from worked in_blocks typed printed undefined all_read initialized in_full run enter breaks wrong sort_of advance place_code first_broken first_wrong kind_of holds is_atomic is_target depth_of collapse_from uses_of uses_from line_fault line_breaks line_wrong line_enter line_advance line_place line_first_broken line_first_wrong piece_on_line lexemes_from
begins_behind_it = refl

may_begin_behind_it : fault (codes "for (uint64_t i = 0; i < 8; i++) for (uint64_t j = i; j != 4; j++) x = j;" ∷ []) ≡ at Unexpected 2 52
unfolding called defined parameters arguments index_len number_of hex_number_of number_piece sign_one sign_two sign_three changing_sign sign_at format_at piece_at comment_end_from is_include after tokens_from word_of is_omp expression line_from clauses_from worked in_blocks typed printed undefined all_read initialized in_full run enter breaks wrong sort_of advance place_code first_broken first_wrong kind_of holds is_atomic is_target depth_of collapse_from uses_of uses_from line_fault line_breaks line_wrong line_enter line_advance line_place line_first_broken line_first_wrong piece_on_line lexemes_from
may_begin_behind_it = refl

of_a_scalar : fault (codes "for (uint64_t i = 0; i < 8; i++) for (uint64_t j = 0; j < x; j++) x = j;" ∷ []) ≡ at Unexpected 2 59
unfolding called defined parameters arguments index_len number_of hex_number_of number_piece sign_one sign_two sign_three changing_sign sign_at format_at piece_at comment_end_from is_include after tokens_from word_of is_omp expression line_from clauses_from worked in_blocks typed printed undefined all_read initialized in_full run enter breaks wrong sort_of advance place_code first_broken first_wrong kind_of holds is_atomic is_target depth_of collapse_from uses_of uses_from line_fault line_breaks line_wrong line_enter line_advance line_place line_first_broken line_first_wrong piece_on_line lexemes_from
of_a_scalar = refl

below_zero : fault (codes "for (uint64_t i = 0; i < 8; i++) for (uint64_t j = i - 1; j < 8; j++) x = j;" ∷ []) ≡ at Unexpected 2 52
unfolding called defined parameters arguments index_len number_of hex_number_of number_piece sign_one sign_two sign_three changing_sign sign_at format_at piece_at comment_end_from is_include after tokens_from word_of is_omp expression line_from clauses_from worked in_blocks typed printed undefined all_read initialized in_full run enter breaks wrong sort_of advance place_code first_broken first_wrong kind_of holds is_atomic is_target depth_of collapse_from uses_of uses_from line_fault line_breaks line_wrong line_enter line_advance line_place line_first_broken line_first_wrong piece_on_line lexemes_from
below_zero = refl

below_zero_at_the_end : fault (codes "for (uint64_t i = 0; i < 8; i++) for (uint64_t j = 0; j < 8 - i - 2; j++) x = j;" ∷ []) ≡ at Unexpected 2 61
unfolding called defined parameters arguments index_len number_of hex_number_of number_piece sign_one sign_two sign_three changing_sign sign_at format_at piece_at comment_end_from is_include after tokens_from word_of is_omp expression line_from clauses_from worked in_blocks typed printed undefined all_read initialized in_full run enter breaks wrong sort_of advance place_code first_broken first_wrong kind_of holds is_atomic is_target depth_of collapse_from uses_of uses_from line_fault line_breaks line_wrong line_enter line_advance line_place line_first_broken line_first_wrong piece_on_line lexemes_from
below_zero_at_the_end = refl

above_all_numbers : fault (codes "for (uint64_t i = 0; i < 8; i++) for (uint64_t j = 0; j < 18446744073709551609 + i; j++) x = j;" ∷ []) ≡ at Unexpected 2 80
unfolding called defined parameters arguments index_len number_of hex_number_of number_piece sign_one sign_two sign_three changing_sign sign_at format_at piece_at comment_end_from is_include after tokens_from word_of is_omp expression line_from clauses_from worked in_blocks typed printed undefined all_read initialized in_full run enter breaks wrong sort_of advance place_code first_broken first_wrong kind_of holds is_atomic is_target depth_of collapse_from uses_of uses_from line_fault line_breaks line_wrong line_enter line_advance line_place line_first_broken line_first_wrong piece_on_line lexemes_from
above_all_numbers = refl

equal_to_the_largest : fault (codes "for (uint64_t i = 0; i < 8; i++) for (uint64_t j = 0; j <= 18446744073709551608 + i; j++) x = j;" ∷ []) ≡ at Unexpected 2 57
unfolding called defined parameters arguments index_len number_of hex_number_of number_piece sign_one sign_two sign_three changing_sign sign_at format_at piece_at comment_end_from is_include after tokens_from word_of is_omp expression line_from clauses_from worked in_blocks typed printed undefined all_read initialized in_full run enter breaks wrong sort_of advance place_code first_broken first_wrong kind_of holds is_atomic is_target depth_of collapse_from uses_of uses_from line_fault line_breaks line_wrong line_enter line_advance line_place line_first_broken line_first_wrong piece_on_line lexemes_from
equal_to_the_largest = refl

by_more_from_it : fault (codes "for (uint64_t i = 0; i < 8; i++) for (uint64_t j = i; j < 8; j += 2) x = j;" ∷ []) ≡ at Unexpected 2 52
unfolding called defined parameters arguments index_len number_of hex_number_of number_piece sign_one sign_two sign_three changing_sign sign_at format_at piece_at comment_end_from is_include after tokens_from word_of is_omp expression line_from clauses_from worked in_blocks typed printed undefined all_read initialized in_full run enter breaks wrong sort_of advance place_code first_broken first_wrong kind_of holds is_atomic is_target depth_of collapse_from uses_of uses_from line_fault line_breaks line_wrong line_enter line_advance line_place line_first_broken line_first_wrong piece_on_line lexemes_from
by_more_from_it = refl

twice_as_many : fault (codes "for (uint64_t i = 0; i < 8; i++) for (uint64_t j = 0; j < 2 * i; j++) x = j;" ∷ []) ≡ at Unexpected 2 61
unfolding called defined parameters arguments index_len number_of hex_number_of number_piece sign_one sign_two sign_three changing_sign sign_at format_at piece_at comment_end_from is_include after tokens_from word_of is_omp expression line_from clauses_from worked in_blocks typed printed undefined all_read initialized in_full run enter breaks wrong sort_of advance place_code first_broken first_wrong kind_of holds is_atomic is_target depth_of collapse_from uses_of uses_from line_fault line_breaks line_wrong line_enter line_advance line_place line_first_broken line_first_wrong piece_on_line lexemes_from
twice_as_many = refl

of_another_name : fault (codes "for (uint64_t i = 0; i < 8; i++) for (uint64_t j = 0; i < j; j++) x = j;" ∷ []) ≡ at Unexpected 2 55
unfolding called defined parameters arguments index_len number_of hex_number_of number_piece sign_one sign_two sign_three changing_sign sign_at format_at piece_at comment_end_from is_include after tokens_from word_of is_omp expression line_from clauses_from worked in_blocks typed printed undefined all_read initialized in_full run enter breaks wrong sort_of advance place_code first_broken first_wrong kind_of holds is_atomic is_target depth_of collapse_from uses_of uses_from line_fault line_breaks line_wrong line_enter line_advance line_place line_first_broken line_first_wrong piece_on_line lexemes_from
of_another_name = refl

behind_its_loop : fault (codes "for (uint64_t i = 0; i < 8; i++) x = i; for (uint64_t j = i; j < 8; j++) x = j;" ∷ []) ≡ at Unexpected 2 59
unfolding called defined parameters arguments index_len number_of hex_number_of number_piece sign_one sign_two sign_three changing_sign sign_at format_at piece_at comment_end_from is_include after tokens_from word_of is_omp expression line_from clauses_from worked in_blocks typed printed undefined all_read initialized in_full run enter breaks wrong sort_of advance place_code first_broken first_wrong kind_of holds is_atomic is_target depth_of collapse_from uses_of uses_from line_fault line_breaks line_wrong line_enter line_advance line_place line_first_broken line_first_wrong piece_on_line lexemes_from
behind_its_loop = refl

assigned : fault (codes "for (uint64_t i = 0; i < 8; i++) for (uint64_t j = i; j < 8; j++) i = j;" ∷ []) ≡ at LoopNameAssigned 2 67
unfolding called defined parameters arguments index_len number_of hex_number_of number_piece sign_one sign_two sign_three changing_sign sign_at format_at piece_at comment_end_from is_include after tokens_from word_of is_omp expression line_from clauses_from worked in_blocks typed printed undefined all_read initialized in_full run enter breaks wrong sort_of advance place_code first_broken first_wrong kind_of holds is_atomic is_target depth_of collapse_from uses_of uses_from line_fault line_breaks line_wrong line_enter line_advance line_place line_first_broken line_first_wrong piece_on_line lexemes_from
assigned = refl

around_a_directive : fault (codes "for (uint64_t i = 0; i < 8; i++) for (uint64_t j = i; j < 8; j++) {" ∷ codes "#pragma omp taskwait" ∷ codes "}" ∷ []) ≡ at DirectiveUnderIf 3 1
unfolding called defined parameters arguments index_len number_of hex_number_of number_piece sign_one sign_two sign_three changing_sign sign_at format_at piece_at comment_end_from is_include after tokens_from word_of is_omp expression line_from clauses_from worked in_blocks typed printed undefined all_read initialized in_full run enter breaks wrong sort_of advance place_code first_broken first_wrong kind_of holds is_atomic is_target depth_of collapse_from uses_of uses_from line_fault line_breaks line_wrong line_enter line_advance line_place line_first_broken line_first_wrong piece_on_line lexemes_from
around_a_directive = refl

of_a_target : fault (codes "for (uint64_t i = 0; i < 8; i++) " ∷ codes "{" ∷ codes "#pragma omp target teams distribute parallel for map(tofrom: A)" ∷ codes "for (uint64_t j = i; j < 8; j++) A[j] = A[j] + 1;" ∷ codes "}" ∷ []) ≡ None
unfolding called defined parameters arguments index_len number_of hex_number_of number_piece sign_one sign_two sign_three changing_sign sign_at format_at piece_at comment_end_from is_include after tokens_from word_of is_omp expression line_from clauses_from worked in_blocks typed printed undefined all_read initialized in_full run enter breaks wrong sort_of advance place_code first_broken first_wrong kind_of holds is_atomic is_target depth_of collapse_from uses_of uses_from line_fault line_breaks line_wrong line_enter line_advance line_place line_first_broken line_first_wrong piece_on_line lexemes_from
of_a_target = refl
