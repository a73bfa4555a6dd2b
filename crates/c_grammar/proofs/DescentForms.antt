-- What is answered of sources with loops that count down, and what they are written out as, by computation.
use Rattle.std.proofs.Common.{◌≡◌, ℕ, List, [], ◌∷◌, ◌++◌, map, Option, Some, None, refl}
use Rattle.std.specs.Prelude.{codes}
use Rattle.base.specs.declared.fault.TextFault.{TextFault}
use Rattle.base.specs.declared.fault.ReadCode.{ReadCode as Code}
use Rattle.base.specs.declared.fault.ReadCode.TheVariants.{Unexpected, BadBound}
use Rattle.c_tokens.specs.Piece.{number_of, hex_number_of, number_piece, sign_one, sign_two, sign_three, changing_sign, sign_at, format_at, piece_at, comment_end_from, is_include}
use Rattle.c_tokens.specs.Text.{after, tokens_from}
use Rattle.c_grammar.specs.Lexeme.{word_of, piece_on_line, lexemes_from}
use Rattle.c_grammar.specs.Lines.{is_omp, kind_of, holds, is_atomic, is_target, depth_of, collapse_from, uses_of, uses_from, line_fault}
use Rattle.c_grammar.specs.LineRules.{line_breaks, line_wrong, line_enter}
use Rattle.c_grammar.specs.LineMachine.{line_advance, line_place, line_first_broken, line_first_wrong}
use Rattle.c_grammar.specs.Expressions.{expression}
use Rattle.c_grammar.specs.Functions.{called, defined, arguments, index_len}
use Rattle.c_grammar.specs.FunctionHeads.{parameters}
use Rattle.c_grammar.specs.LineForms.{line_from}
use Rattle.c_grammar.specs.Constants.{worked, undefined}
use Rattle.c_grammar.specs.Changes.{in_full}
use Rattle.c_grammar.specs.Allocations.{all_read}
use Rattle.c_grammar.specs.Clauses.{clauses_from}
use Rattle.c_grammar.specs.Initial.{initialized}
use Rattle.c_grammar.specs.Blocks.{typed, in_blocks}
use Rattle.c_grammar.specs.Prints.{printed}
use Rattle.c_grammar.specs.Machine.{run}
use Rattle.c_grammar.specs.Rules.{enter, breaks, wrong, sort_of}
use Rattle.c_grammar.specs.Program.{advance, place_code, first_broken, first_wrong}
use Rattle.c_grammar.specs.Terminal.{Terminal}
use Rattle.c_grammar.specs.Source.{fault_in, items_of}

abbrev at : Code → ℕ → ℕ → Option TextFault
at code line column = Some (record { code = code; line = line; column = column })

abbrev lines : List (List ℕ) → List ℕ
lines [] = []
lines (l ∷ ls) = l ++ (10 ∷ lines ls)

-- the lines of main, behind the declarations of an array and two scalars
abbrev source : List (List ℕ) → List ℕ
source ls = lines (codes "uint64_t A[16], x, y; int main() {" ∷ (ls ++ codes "}" ∷ []))

abbrev fault : List (List ℕ) → Option TextFault
fault ls = fault_in (source ls)

abbrev tokens : List (List ℕ) → List Terminal
tokens ls = map (λ i. i.terminal) (items_of (source ls))

with_int : tokens (codes "for (int i = 7; i >= 0; i--) x = i;" ∷ []) ≡ tokens (codes "for (int i = 0; i <= 7; i++) x = 0 + 7 - i;" ∷ [])
unfolding called defined parameters arguments index_len number_of hex_number_of number_piece sign_one sign_two sign_three changing_sign sign_at format_at piece_at comment_end_from is_include after tokens_from word_of is_omp expression line_from clauses_from worked in_blocks typed printed undefined all_read initialized in_full run enter breaks wrong sort_of advance place_code first_broken first_wrong kind_of holds is_atomic is_target depth_of collapse_from uses_of uses_from line_fault line_breaks line_wrong line_enter line_advance line_place line_first_broken line_first_wrong piece_on_line lexemes_from
with_int = refl

above_it : tokens (codes "for (uint64_t i = 7; i > 2; --i) A[i] = 2 * i;" ∷ []) ≡ tokens (codes "for (uint64_t i = 2 + 1; i <= 7; ++i) A[2 + 1 + 7 - i] = 2 * (2 + 1 + 7 - i);" ∷ [])
unfolding called defined parameters arguments index_len number_of hex_number_of number_piece sign_one sign_two sign_three changing_sign sign_at format_at piece_at comment_end_from is_include after tokens_from word_of is_omp expression line_from clauses_from worked in_blocks typed printed undefined all_read initialized in_full run enter breaks wrong sort_of advance place_code first_broken first_wrong kind_of holds is_atomic is_target depth_of collapse_from uses_of uses_from line_fault line_breaks line_wrong line_enter line_advance line_place line_first_broken line_first_wrong piece_on_line lexemes_from
above_it = refl

at_least_one : tokens (codes "for (uint64_t i = 7; i >= 1; i--) x = i;" ∷ []) ≡ tokens (codes "for (uint64_t i = 1; i <= 7; i++) x = 1 + 7 - i;" ∷ [])
unfolding called defined parameters arguments index_len number_of hex_number_of number_piece sign_one sign_two sign_three changing_sign sign_at format_at piece_at comment_end_from is_include after tokens_from word_of is_omp expression line_from clauses_from worked in_blocks typed printed undefined all_read initialized in_full run enter breaks wrong sort_of advance place_code first_broken first_wrong kind_of holds is_atomic is_target depth_of collapse_from uses_of uses_from line_fault line_breaks line_wrong line_enter line_advance line_place line_first_broken line_first_wrong piece_on_line lexemes_from
at_least_one = refl

triangle : tokens (codes "for (int i = 7; i >= 0; i--) for (int j = i; j >= 0; j--) x = j;" ∷ []) ≡ tokens (codes "for (int i = 0; i <= 7; i++) for (int j = 0; j <= 0 + 7 - i; j++) x = 0 + 0 + 7 - i - j;" ∷ [])
unfolding called defined parameters arguments index_len number_of hex_number_of number_piece sign_one sign_two sign_three changing_sign sign_at format_at piece_at comment_end_from is_include after tokens_from word_of is_omp expression line_from clauses_from worked in_blocks typed printed undefined all_read initialized in_full run enter breaks wrong sort_of advance place_code first_broken first_wrong kind_of holds is_atomic is_target depth_of collapse_from uses_of uses_from line_fault line_breaks line_wrong line_enter line_advance line_place line_first_broken line_first_wrong piece_on_line lexemes_from
triangle = refl

above_the_name : tokens (codes "for (int i = 0; i < 8; i++) for (int j = 7; j >= i; j--) x = j;" ∷ []) ≡ tokens (codes "for (int i = 0; i < 8; i++) for (int j = i; j <= 7; j++) x = i + 7 - j;" ∷ [])
unfolding called defined parameters arguments index_len number_of hex_number_of number_piece sign_one sign_two sign_three changing_sign sign_at format_at piece_at comment_end_from is_include after tokens_from word_of is_omp expression line_from clauses_from worked in_blocks typed printed undefined all_read initialized in_full run enter breaks wrong sort_of advance place_code first_broken first_wrong kind_of holds is_atomic is_target depth_of collapse_from uses_of uses_from line_fault line_breaks line_wrong line_enter line_advance line_place line_first_broken line_first_wrong piece_on_line lexemes_from
above_the_name = refl

upward_in_it : tokens (codes "for (int i = 7; i > 0; i--) for (int j = 0; j < i; j++) x = j - i;" ∷ []) ≡ tokens (codes "for (int i = 0 + 1; i <= 7; i++) for (int j = 0; j < 0 + 1 + 7 - i; j++) x = j - (0 + 1 + 7 - i);" ∷ [])
unfolding called defined parameters arguments index_len number_of hex_number_of number_piece sign_one sign_two sign_three changing_sign sign_at format_at piece_at comment_end_from is_include after tokens_from word_of is_omp expression line_from clauses_from worked in_blocks typed printed undefined all_read initialized in_full run enter breaks wrong sort_of advance place_code first_broken first_wrong kind_of holds is_atomic is_target depth_of collapse_from uses_of uses_from line_fault line_breaks line_wrong line_enter line_advance line_place line_first_broken line_first_wrong piece_on_line lexemes_from
upward_in_it = refl

section : tokens (codes "for (int i = 7; i >= 0; i--) {" ∷ codes "#pragma omp target update to(A[i:1], A[i + 1:1])" ∷ codes "}" ∷ []) ≡ tokens (codes "for (int i = 0; i <= 7; i++) {" ∷ codes "#pragma omp target update to(A[0 + 7 - i:1], A[0 + 7 - i + 1:1])" ∷ codes "}" ∷ [])
unfolding called defined parameters arguments index_len number_of hex_number_of number_piece sign_one sign_two sign_three changing_sign sign_at format_at piece_at comment_end_from is_include after tokens_from word_of is_omp expression line_from clauses_from worked in_blocks typed printed undefined all_read initialized in_full run enter breaks wrong sort_of advance place_code first_broken first_wrong kind_of holds is_atomic is_target depth_of collapse_from uses_of uses_from line_fault line_breaks line_wrong line_enter line_advance line_place line_first_broken line_first_wrong piece_on_line lexemes_from
section = refl

any_is_at_least_zero : fault (codes "for (uint64_t i = 7; i >= 0; i--) x = i;" ∷ []) ≡ at Unexpected 2 24
unfolding called defined parameters arguments index_len number_of hex_number_of number_piece sign_one sign_two sign_three changing_sign sign_at format_at piece_at comment_end_from is_include after tokens_from word_of is_omp expression line_from clauses_from worked in_blocks typed printed undefined all_read initialized in_full run enter breaks wrong sort_of advance place_code first_broken first_wrong kind_of holds is_atomic is_target depth_of collapse_from uses_of uses_from line_fault line_breaks line_wrong line_enter line_advance line_place line_first_broken line_first_wrong piece_on_line lexemes_from
any_is_at_least_zero = refl

beside_a_number_without_sign : fault (codes "for (uint64_t k = 0; k < 8; k++) for (int i = 7; i >= k; i--) x = i;" ∷ []) ≡ at Unexpected 2 52
unfolding called defined parameters arguments index_len number_of hex_number_of number_piece sign_one sign_two sign_three changing_sign sign_at format_at piece_at comment_end_from is_include after tokens_from word_of is_omp expression line_from clauses_from worked in_blocks typed printed undefined all_read initialized in_full run enter breaks wrong sort_of advance place_code first_broken first_wrong kind_of holds is_atomic is_target depth_of collapse_from uses_of uses_from line_fault line_breaks line_wrong line_enter line_advance line_place line_first_broken line_first_wrong piece_on_line lexemes_from
beside_a_number_without_sign = refl

factor_in_a_bound : fault (codes "for (int i = 7; i >= 0; i--) {" ∷ codes "#pragma omp target update to(A[2 * i:1])" ∷ codes "}" ∷ []) ≡ at BadBound 3 36
unfolding called defined parameters arguments index_len number_of hex_number_of number_piece sign_one sign_two sign_three changing_sign sign_at format_at piece_at comment_end_from is_include after tokens_from word_of is_omp expression line_from clauses_from worked in_blocks typed printed undefined all_read initialized in_full run enter breaks wrong sort_of advance place_code first_broken first_wrong kind_of holds is_atomic is_target depth_of collapse_from uses_of uses_from line_fault line_breaks line_wrong line_enter line_advance line_place line_first_broken line_first_wrong piece_on_line lexemes_from
factor_in_a_bound = refl

assigned : fault (codes "for (int i = 7; i >= 0; i--) i = 3;" ∷ []) ≡ at Unexpected 2 30
unfolding called defined parameters arguments index_len number_of hex_number_of number_piece sign_one sign_two sign_three changing_sign sign_at format_at piece_at comment_end_from is_include after tokens_from word_of is_omp expression line_from clauses_from worked in_blocks typed printed undefined all_read initialized in_full run enter breaks wrong sort_of advance place_code first_broken first_wrong kind_of holds is_atomic is_target depth_of collapse_from uses_of uses_from line_fault line_breaks line_wrong line_enter line_advance line_place line_first_broken line_first_wrong piece_on_line lexemes_from
assigned = refl
