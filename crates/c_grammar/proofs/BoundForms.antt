-- What is answered of sources with bounds of which terms are taken away, by computation.
use Rattle.std.proofs.Common.{◌≡◌, ℕ, List, [], ◌∷◌, ◌++◌, map, Option, Some, None, refl}
use Rattle.std.specs.Prelude.{codes}
use Rattle.base.specs.declared.fault.TextFault.{TextFault}
use Rattle.base.specs.declared.fault.ReadCode.{ReadCode as Code}
use Rattle.base.specs.declared.fault.ReadCode.TheVariants.{Undeclared, TooMany, BadBound}
use Rattle.c_tokens.specs.Piece.{number_of, hex_number_of, number_piece, sign_one, sign_two, sign_three, changing_sign, sign_at, format_at, piece_at, comment_end_from, is_include}
use Rattle.c_tokens.specs.Text.{after, tokens_from}
use Rattle.c_grammar.specs.Lexeme.{Lexeme, word_of, piece_on_line, lexemes_from, lexemes_of}
use Rattle.c_grammar.specs.Lines.{is_omp, kind_of, holds, is_atomic, is_target, depth_of, collapse_from, uses_of, uses_from, line_fault}
use Rattle.c_grammar.specs.LineRules.{line_breaks, line_wrong, line_enter}
use Rattle.c_grammar.specs.LineMachine.{line_advance, line_place, line_first_broken, line_first_wrong}
use Rattle.c_grammar.specs.Expressions.{expression}
use Rattle.c_grammar.specs.Functions.{index_len}
use Rattle.c_grammar.specs.Grids.{Elsewhere, in_rows, index_from}
use Rattle.c_grammar.specs.LineForms.{line_from, line_in_full}
use Rattle.c_grammar.specs.Constants.{worked, undefined}
use Rattle.c_grammar.specs.Changes.{in_full}
use Rattle.c_grammar.specs.Allocations.{all_read}
use Rattle.c_grammar.specs.Clauses.{clauses_from}
use Rattle.c_grammar.specs.Initial.{initialized}
use Rattle.c_grammar.specs.Blocks.{typed, in_blocks}
use Rattle.c_grammar.specs.Prints.{printed}
use Rattle.c_grammar.specs.Machine.{run}
use Rattle.c_grammar.specs.Rules.{enter, breaks, wrong, sort_of}
use Rattle.c_grammar.specs.Program.{advance, place_code, first_broken, first_wrong}
use Rattle.c_grammar.specs.Source.{fault_in}

abbrev at : Code → ℕ → ℕ → Option TextFault
at code line column = Some (record { code = code; line = line; column = column })

abbrev lines : List (List ℕ) → List ℕ
lines [] = []
lines (l ∷ ls) = l ++ (10 ∷ lines ls)

-- a directive line in a loop over i, behind a constant of 4, a scalar and an array of 32 cells
abbrev fault : List ℕ → Option TextFault
fault line = fault_in (lines (
    codes "#define N 4" ∷
    codes "uint64_t A[32], x; int main() { for (uint64_t i = 1; i < 4; i++) {" ∷
    line ∷
    codes "{ } } }" ∷ []))

behind_a_name : fault (codes "#pragma omp target map(to: A[i - 1:3]) depend(in: A[8 * i - 4:8], A[i - 1])") ≡ None
unfolding index_from index_len format_at number_of hex_number_of number_piece sign_one sign_two sign_three changing_sign sign_at piece_at comment_end_from is_include after tokens_from word_of is_omp expression line_from clauses_from worked in_blocks typed printed undefined all_read initialized in_full run enter breaks wrong sort_of advance place_code first_broken first_wrong kind_of holds is_atomic is_target depth_of collapse_from uses_of uses_from line_fault line_breaks line_wrong line_enter line_advance line_place line_first_broken line_first_wrong piece_on_line lexemes_from
behind_a_name = refl

before_a_name : fault (codes "#pragma omp target map(to: A[0:N - i]) depend(in: A[N * N - 2 * i:N])") ≡ None
unfolding index_from index_len format_at number_of hex_number_of number_piece sign_one sign_two sign_three changing_sign sign_at piece_at comment_end_from is_include after tokens_from word_of is_omp expression line_from clauses_from worked in_blocks typed printed undefined all_read initialized in_full run enter breaks wrong sort_of advance place_code first_broken first_wrong kind_of holds is_atomic is_target depth_of collapse_from uses_of uses_from line_fault line_breaks line_wrong line_enter line_advance line_place line_first_broken line_first_wrong piece_on_line lexemes_from
before_a_name = refl

products : fault (codes "#pragma omp target map(to: A[2 * N * i - 1:(N / 2) * i + N * N - 2 * N * i])") ≡ None
unfolding index_from index_len format_at number_of hex_number_of number_piece sign_one sign_two sign_three changing_sign sign_at piece_at comment_end_from is_include after tokens_from word_of is_omp expression line_from clauses_from worked in_blocks typed printed undefined all_read initialized in_full run enter breaks wrong sort_of advance place_code first_broken first_wrong kind_of holds is_atomic is_target depth_of collapse_from uses_of uses_from line_fault line_breaks line_wrong line_enter line_advance line_place line_first_broken line_first_wrong piece_on_line lexemes_from
products = refl

eight_terms : fault (codes "#pragma omp target map(to: A[i - i + i - i + i - i + i - i:1])") ≡ None
unfolding index_from index_len format_at number_of hex_number_of number_piece sign_one sign_two sign_three changing_sign sign_at piece_at comment_end_from is_include after tokens_from word_of is_omp expression line_from clauses_from worked in_blocks typed printed undefined all_read initialized in_full run enter breaks wrong sort_of advance place_code first_broken first_wrong kind_of holds is_atomic is_target depth_of collapse_from uses_of uses_from line_fault line_breaks line_wrong line_enter line_advance line_place line_first_broken line_first_wrong piece_on_line lexemes_from
eight_terms = refl

nine_terms : fault (codes "#pragma omp target map(to: A[i - i + i - i + i - i + i - i - i:1])") ≡ at TooMany 3 62
unfolding index_from index_len format_at number_of hex_number_of number_piece sign_one sign_two sign_three changing_sign sign_at piece_at comment_end_from is_include after tokens_from word_of is_omp expression line_from clauses_from worked in_blocks typed printed undefined all_read initialized in_full run enter breaks wrong sort_of advance place_code first_broken first_wrong kind_of holds is_atomic is_target depth_of collapse_from uses_of uses_from line_fault line_breaks line_wrong line_enter line_advance line_place line_first_broken line_first_wrong piece_on_line lexemes_from
nine_terms = refl

nothing_behind_it : fault (codes "#pragma omp target map(to: A[i - :1])") ≡ at BadBound 3 34
unfolding index_from index_len format_at number_of hex_number_of number_piece sign_one sign_two sign_three changing_sign sign_at piece_at comment_end_from is_include after tokens_from word_of is_omp expression line_from clauses_from worked in_blocks typed printed undefined all_read initialized in_full run enter breaks wrong sort_of advance place_code first_broken first_wrong kind_of holds is_atomic is_target depth_of collapse_from uses_of uses_from line_fault line_breaks line_wrong line_enter line_advance line_place line_first_broken line_first_wrong piece_on_line lexemes_from
nothing_behind_it = refl

two_signs : fault (codes "#pragma omp target map(to: A[i - - 1:1])") ≡ at BadBound 3 34
unfolding index_from index_len format_at number_of hex_number_of number_piece sign_one sign_two sign_three changing_sign sign_at piece_at comment_end_from is_include after tokens_from word_of is_omp expression line_from clauses_from worked in_blocks typed printed undefined all_read initialized in_full run enter breaks wrong sort_of advance place_code first_broken first_wrong kind_of holds is_atomic is_target depth_of collapse_from uses_of uses_from line_fault line_breaks line_wrong line_enter line_advance line_place line_first_broken line_first_wrong piece_on_line lexemes_from
two_signs = refl

sign_of_the_first_term : fault (codes "#pragma omp target map(to: A[0:-i])") ≡ at BadBound 3 32
unfolding index_from index_len format_at number_of hex_number_of number_piece sign_one sign_two sign_three changing_sign sign_at piece_at comment_end_from is_include after tokens_from word_of is_omp expression line_from clauses_from worked in_blocks typed printed undefined all_read initialized in_full run enter breaks wrong sort_of advance place_code first_broken first_wrong kind_of holds is_atomic is_target depth_of collapse_from uses_of uses_from line_fault line_breaks line_wrong line_enter line_advance line_place line_first_broken line_first_wrong piece_on_line lexemes_from
sign_of_the_first_term = refl

brackets : fault (codes "#pragma omp target map(to: A[i - (i + 1):1])") ≡ at BadBound 3 34
unfolding index_from index_len format_at number_of hex_number_of number_piece sign_one sign_two sign_three changing_sign sign_at piece_at comment_end_from is_include after tokens_from word_of is_omp expression line_from clauses_from worked in_blocks typed printed undefined all_read initialized in_full run enter breaks wrong sort_of advance place_code first_broken first_wrong kind_of holds is_atomic is_target depth_of collapse_from uses_of uses_from line_fault line_breaks line_wrong line_enter line_advance line_place line_first_broken line_first_wrong piece_on_line lexemes_from
brackets = refl

scalar_is_taken_away : fault (codes "#pragma omp target map(to: A[i - x:1])") ≡ at BadBound 3 34
unfolding index_from index_len format_at number_of hex_number_of number_piece sign_one sign_two sign_three changing_sign sign_at piece_at comment_end_from is_include after tokens_from word_of is_omp expression line_from clauses_from worked in_blocks typed printed undefined all_read initialized in_full run enter breaks wrong sort_of advance place_code first_broken first_wrong kind_of holds is_atomic is_target depth_of collapse_from uses_of uses_from line_fault line_breaks line_wrong line_enter line_advance line_place line_first_broken line_first_wrong piece_on_line lexemes_from
scalar_is_taken_away = refl

array_is_taken_away : fault (codes "#pragma omp target map(to: A[i - A:1])") ≡ at Undeclared 3 34
unfolding index_from index_len format_at number_of hex_number_of number_piece sign_one sign_two sign_three changing_sign sign_at piece_at comment_end_from is_include after tokens_from word_of is_omp expression line_from clauses_from worked in_blocks typed printed undefined all_read initialized in_full run enter breaks wrong sort_of advance place_code first_broken first_wrong kind_of holds is_atomic is_target depth_of collapse_from uses_of uses_from line_fault line_breaks line_wrong line_enter line_advance line_place line_first_broken line_first_wrong piece_on_line lexemes_from
array_is_taken_away = refl

number_behind_a_name : fault (codes "#pragma omp target map(to: A[N * i * N:1])") ≡ at BadBound 3 36
unfolding index_from index_len format_at number_of hex_number_of number_piece sign_one sign_two sign_three changing_sign sign_at piece_at comment_end_from is_include after tokens_from word_of is_omp expression line_from clauses_from worked in_blocks typed printed undefined all_read initialized in_full run enter breaks wrong sort_of advance place_code first_broken first_wrong kind_of holds is_atomic is_target depth_of collapse_from uses_of uses_from line_fault line_breaks line_wrong line_enter line_advance line_place line_first_broken line_first_wrong piece_on_line lexemes_from
number_behind_a_name = refl

-- ---- lines in full

abbrev words : List ℕ → List Lexeme
words line = map (λ p. p.lexeme) (lexemes_of line 1)

abbrev in_full_words : List ℕ → List Lexeme
in_full_words line = map (λ p. p.lexeme) (line_in_full ((codes "N", 4) ∷ []) ((codes "A", 32) ∷ []) (lexemes_of line 1))

worked_products : in_full_words (codes "#pragma omp target map(to: A[2 * N * k - N / 2:(N + 1) * k + N * N - N * j])") ≡ words (codes "#pragma omp target map(to: A[8 * k - 2:5 * k + 16 - 4 * j])")
unfolding index_from index_len format_at number_of hex_number_of number_piece sign_one sign_two sign_three changing_sign sign_at piece_at comment_end_from is_include after tokens_from word_of is_omp expression line_from clauses_from worked in_blocks typed printed undefined all_read initialized in_full run enter breaks wrong sort_of advance place_code first_broken first_wrong kind_of holds is_atomic is_target depth_of collapse_from uses_of uses_from line_fault line_breaks line_wrong line_enter line_advance line_place line_first_broken line_first_wrong piece_on_line lexemes_from
worked_products = refl

worked_whole : in_full_words (codes "#pragma omp target map(to: A[N - 1 - 2 * 1:N * (N - 1)])") ≡ words (codes "#pragma omp target map(to: A[1:12])")
unfolding index_from index_len format_at number_of hex_number_of number_piece sign_one sign_two sign_three changing_sign sign_at piece_at comment_end_from is_include after tokens_from word_of is_omp expression line_from clauses_from worked in_blocks typed printed undefined all_read initialized in_full run enter breaks wrong sort_of advance place_code first_broken first_wrong kind_of holds is_atomic is_target depth_of collapse_from uses_of uses_from line_fault line_breaks line_wrong line_enter line_advance line_place line_first_broken line_first_wrong piece_on_line lexemes_from
worked_whole = refl

kept_below_zero : in_full_words (codes "#pragma omp target map(to: A[3 - N:1])") ≡ words (codes "#pragma omp target map(to: A[3 - 4:1])")
unfolding index_from index_len format_at number_of hex_number_of number_piece sign_one sign_two sign_three changing_sign sign_at piece_at comment_end_from is_include after tokens_from word_of is_omp expression line_from clauses_from worked in_blocks typed printed undefined all_read initialized in_full run enter breaks wrong sort_of advance place_code first_broken first_wrong kind_of holds is_atomic is_target depth_of collapse_from uses_of uses_from line_fault line_breaks line_wrong line_enter line_advance line_place line_first_broken line_first_wrong piece_on_line lexemes_from
kept_below_zero = refl

elements : in_full_words (codes "#pragma omp target map(to: A[:N - k]) depend(in: A[k - N])") ≡ words (codes "#pragma omp target map(to: A[0:4 - k]) depend(in: A[k - 4:1])")
unfolding index_from index_len format_at number_of hex_number_of number_piece sign_one sign_two sign_three changing_sign sign_at piece_at comment_end_from is_include after tokens_from word_of is_omp expression line_from clauses_from worked in_blocks typed printed undefined all_read initialized in_full run enter breaks wrong sort_of advance place_code first_broken first_wrong kind_of holds is_atomic is_target depth_of collapse_from uses_of uses_from line_fault line_breaks line_wrong line_enter line_advance line_place line_first_broken line_first_wrong piece_on_line lexemes_from
elements = refl

-- rows of eight cells
abbrev in_rows_of_eight : List ℕ → List Lexeme
in_rows_of_eight line = map (λ p. p.lexeme) (in_rows ((codes "A", 8) ∷ []) Elsewhere (lexemes_of line 1))

rows : in_rows_of_eight (codes "#pragma omp target map(to: A[k - 1:4 - k][0:8])") ≡ words (codes "#pragma omp target map(to: A[8 * k - 8:32 - 8 * k])")
unfolding index_from index_len format_at number_of hex_number_of number_piece sign_one sign_two sign_three changing_sign sign_at piece_at comment_end_from is_include after tokens_from word_of is_omp expression line_from clauses_from worked in_blocks typed printed undefined all_read initialized in_full run enter breaks wrong sort_of advance place_code first_broken first_wrong kind_of holds is_atomic is_target depth_of collapse_from uses_of uses_from line_fault line_breaks line_wrong line_enter line_advance line_place line_first_broken line_first_wrong piece_on_line lexemes_from
rows = refl
