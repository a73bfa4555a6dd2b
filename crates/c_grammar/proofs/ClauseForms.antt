-- Directive lines with clauses as people write them, by computation.
use Rattle.c_grammar.specs.Allocations.{all_read}
use Rattle.std.proofs.Common.{◌≡◌, ℕ, List, [], ◌∷◌, ◌++◌, map, Option, Some, None, refl}
use Rattle.std.specs.Prelude.{codes}
use Rattle.base.specs.declared.fault.TextFault.{TextFault}
use Rattle.base.specs.declared.fault.ReadCode.{ReadCode as Code}
use Rattle.base.specs.declared.fault.ReadCode.TheVariants.{UnknownClause, BadMapType, Undeclared}
use Rattle.c_tokens.specs.Piece.{number_of, hex_number_of, number_piece, sign_one, sign_two, sign_three, changing_sign, sign_at, piece_at, comment_end_from, is_include}
use Rattle.c_tokens.specs.Text.{after, tokens_from}
use Rattle.c_grammar.specs.Lexeme.{Lexeme, word_of, piece_on_line, lexemes_from, lexemes_of}
use Rattle.c_grammar.specs.Lines.{is_omp, kind_of, holds, is_atomic, is_target, depth_of, collapse_from, uses_of, uses_from, line_fault}
use Rattle.c_grammar.specs.LineRules.{line_breaks, line_wrong, line_enter}
use Rattle.c_grammar.specs.LineMachine.{line_advance, line_place, line_first_broken, line_first_wrong}
use Rattle.c_grammar.specs.Expressions.{expression}
use Rattle.c_grammar.specs.Clauses.{clauses_from, clauses_in_full}
use Rattle.c_grammar.specs.LineForms.{line_from}
use Rattle.c_grammar.specs.Constants.{worked, undefined}
use Rattle.c_grammar.specs.Changes.{in_full}
use Rattle.c_grammar.specs.Initial.{initialized}
use Rattle.c_grammar.specs.Blocks.{typed, in_blocks}
use Rattle.c_grammar.specs.Prints.{printed}
use Rattle.c_grammar.specs.Machine.{run}
use Rattle.c_grammar.specs.Rules.{enter, breaks, wrong, sort_of}
use Rattle.c_grammar.specs.Program.{advance, place_code, first_broken, first_wrong}
use Rattle.c_grammar.specs.Source.{fault_in}

abbrev at : Code → ℕ → ℕ → Option TextFault
at code line column = Some (record { code = code; line = line; column = column })

abbrev lines : List (List ℕ) → List ℕ
lines [] = []
lines (l ∷ ls) = l ++ (10 ∷ lines ls)

-- ---- lines in full, where two arrays and a scalar are declared

abbrev words : List ℕ → List Lexeme
words line = map (λ p. p.lexeme) (lexemes_of line 1)

abbrev written : List ℕ → List Lexeme
written line = map (λ p. p.lexeme) (clauses_in_full (codes "n" ∷ codes "A" ∷ codes "B" ∷ [])
    ((codes "A", 8) ∷ (codes "B", 4) ∷ []) (lexemes_of line 1))

types_put : written (codes "#pragma omp target map(A[0:n], B) map(to: A[(1 + 2):4])") ≡ words (codes "#pragma omp target map(tofrom: A[0:n], B) map(to: A[(1 + 2):4])")
unfolding number_of hex_number_of number_piece sign_one sign_two sign_three changing_sign sign_at piece_at comment_end_from is_include after tokens_from word_of is_omp expression line_from clauses_from worked in_blocks typed printed undefined all_read initialized in_full run enter breaks wrong sort_of advance place_code first_broken first_wrong kind_of holds is_atomic is_target depth_of collapse_from uses_of uses_from line_fault line_breaks line_wrong line_enter line_advance line_place line_first_broken line_first_wrong piece_on_line lexemes_from
types_put = refl

type_of_enter : written (codes "#pragma omp target enter data map(A), nowait") ≡ words (codes "#pragma omp target enter data map(to: A), nowait")
unfolding number_of hex_number_of number_piece sign_one sign_two sign_three changing_sign sign_at piece_at comment_end_from is_include after tokens_from word_of is_omp expression line_from clauses_from worked in_blocks typed printed undefined all_read initialized in_full run enter breaks wrong sort_of advance place_code first_broken first_wrong kind_of holds is_atomic is_target depth_of collapse_from uses_of uses_from line_fault line_breaks line_wrong line_enter line_advance line_place line_first_broken line_first_wrong piece_on_line lexemes_from
type_of_enter = refl

type_of_exit : written (codes "#pragma omp target exit data map(A[2:]) map(delete: B)") ≡ words (codes "#pragma omp target exit data map(from: A[2:]) map(delete: B)")
unfolding number_of hex_number_of number_piece sign_one sign_two sign_three changing_sign sign_at piece_at comment_end_from is_include after tokens_from word_of is_omp expression line_from clauses_from worked in_blocks typed printed undefined all_read initialized in_full run enter breaks wrong sort_of advance place_code first_broken first_wrong kind_of holds is_atomic is_target depth_of collapse_from uses_of uses_from line_fault line_breaks line_wrong line_enter line_advance line_place line_first_broken line_first_wrong piece_on_line lexemes_from
type_of_exit = refl

type_of_data : written (codes "#pragma omp target data map(B[n:2]) device(1)") ≡ words (codes "#pragma omp target data map(tofrom: B[n:2]) device(1)")
unfolding number_of hex_number_of number_piece sign_one sign_two sign_three changing_sign sign_at piece_at comment_end_from is_include after tokens_from word_of is_omp expression line_from clauses_from worked in_blocks typed printed undefined all_read initialized in_full run enter breaks wrong sort_of advance place_code first_broken first_wrong kind_of holds is_atomic is_target depth_of collapse_from uses_of uses_from line_fault line_breaks line_wrong line_enter line_advance line_place line_first_broken line_first_wrong piece_on_line lexemes_from
type_of_data = refl

clauses_left_out : written (codes "#pragma omp target teams distribute parallel for default(shared), shared(A, n) map(A), firstprivate(n) schedule(static)") ≡ words (codes "#pragma omp target teams distribute parallel for map(tofrom: A) schedule(static)")
unfolding number_of hex_number_of number_piece sign_one sign_two sign_three changing_sign sign_at piece_at comment_end_from is_include after tokens_from word_of is_omp expression line_from clauses_from worked in_blocks typed printed undefined all_read initialized in_full run enter breaks wrong sort_of advance place_code first_broken first_wrong kind_of holds is_atomic is_target depth_of collapse_from uses_of uses_from line_fault line_breaks line_wrong line_enter line_advance line_place line_first_broken line_first_wrong piece_on_line lexemes_from
clauses_left_out = refl

last_clause_left_out : written (codes "#pragma omp target parallel for map(to: A), shared(B), default(shared)") ≡ words (codes "#pragma omp target parallel for map(to: A)")
unfolding number_of hex_number_of number_piece sign_one sign_two sign_three changing_sign sign_at piece_at comment_end_from is_include after tokens_from word_of is_omp expression line_from clauses_from worked in_blocks typed printed undefined all_read initialized in_full run enter breaks wrong sort_of advance place_code first_broken first_wrong kind_of holds is_atomic is_target depth_of collapse_from uses_of uses_from line_fault line_breaks line_wrong line_enter line_advance line_place line_first_broken line_first_wrong piece_on_line lexemes_from
last_clause_left_out = refl

first_clauses_left_out : written (codes "#pragma omp target parallel loop shared(B), firstprivate(n), num_threads(2 * (1 + 1)), nowait") ≡ words (codes "#pragma omp target parallel loop num_threads(2 * (1 + 1)), nowait")
unfolding number_of hex_number_of number_piece sign_one sign_two sign_three changing_sign sign_at piece_at comment_end_from is_include after tokens_from word_of is_omp expression line_from clauses_from worked in_blocks typed printed undefined all_read initialized in_full run enter breaks wrong sort_of advance place_code first_broken first_wrong kind_of holds is_atomic is_target depth_of collapse_from uses_of uses_from line_fault line_breaks line_wrong line_enter line_advance line_place line_first_broken line_first_wrong piece_on_line lexemes_from
first_clauses_left_out = refl

between_two_clauses : written (codes "#pragma omp target firstprivate(n), nowait, firstprivate(n), device(1), firstprivate(n)") ≡ words (codes "#pragma omp target nowait device(1)")
unfolding number_of hex_number_of number_piece sign_one sign_two sign_three changing_sign sign_at piece_at comment_end_from is_include after tokens_from word_of is_omp expression line_from clauses_from worked in_blocks typed printed undefined all_read initialized in_full run enter breaks wrong sort_of advance place_code first_broken first_wrong kind_of holds is_atomic is_target depth_of collapse_from uses_of uses_from line_fault line_breaks line_wrong line_enter line_advance line_place line_first_broken line_first_wrong piece_on_line lexemes_from
between_two_clauses = refl

array_is_not_captured : written (codes "#pragma omp target parallel for firstprivate(n, A)") ≡ words (codes "#pragma omp target parallel for firstprivate(n, A)")
unfolding number_of hex_number_of number_piece sign_one sign_two sign_three changing_sign sign_at piece_at comment_end_from is_include after tokens_from word_of is_omp expression line_from clauses_from worked in_blocks typed printed undefined all_read initialized in_full run enter breaks wrong sort_of advance place_code first_broken first_wrong kind_of holds is_atomic is_target depth_of collapse_from uses_of uses_from line_fault line_breaks line_wrong line_enter line_advance line_place line_first_broken line_first_wrong piece_on_line lexemes_from
array_is_not_captured = refl

undeclared_is_not_shared : written (codes "#pragma omp target parallel for shared(A, x)") ≡ words (codes "#pragma omp target parallel for shared(A, x)")
unfolding number_of hex_number_of number_piece sign_one sign_two sign_three changing_sign sign_at piece_at comment_end_from is_include after tokens_from word_of is_omp expression line_from clauses_from worked in_blocks typed printed undefined all_read initialized in_full run enter breaks wrong sort_of advance place_code first_broken first_wrong kind_of holds is_atomic is_target depth_of collapse_from uses_of uses_from line_fault line_breaks line_wrong line_enter line_advance line_place line_first_broken line_first_wrong piece_on_line lexemes_from
undeclared_is_not_shared = refl

no_threads_share : written (codes "#pragma omp target shared(A) nowait") ≡ words (codes "#pragma omp target shared(A) nowait")
unfolding number_of hex_number_of number_piece sign_one sign_two sign_three changing_sign sign_at piece_at comment_end_from is_include after tokens_from word_of is_omp expression line_from clauses_from worked in_blocks typed printed undefined all_read initialized in_full run enter breaks wrong sort_of advance place_code first_broken first_wrong kind_of holds is_atomic is_target depth_of collapse_from uses_of uses_from line_fault line_breaks line_wrong line_enter line_advance line_place line_first_broken line_first_wrong piece_on_line lexemes_from
no_threads_share = refl

no_turns_share : written (codes "#pragma omp target simd default(shared)") ≡ words (codes "#pragma omp target simd default(shared)")
unfolding number_of hex_number_of number_piece sign_one sign_two sign_three changing_sign sign_at piece_at comment_end_from is_include after tokens_from word_of is_omp expression line_from clauses_from worked in_blocks typed printed undefined all_read initialized in_full run enter breaks wrong sort_of advance place_code first_broken first_wrong kind_of holds is_atomic is_target depth_of collapse_from uses_of uses_from line_fault line_breaks line_wrong line_enter line_advance line_place line_first_broken line_first_wrong piece_on_line lexemes_from
no_turns_share = refl

no_body_captures : written (codes "#pragma omp target data firstprivate(n) map(to: A)") ≡ words (codes "#pragma omp target data firstprivate(n) map(to: A)")
unfolding number_of hex_number_of number_piece sign_one sign_two sign_three changing_sign sign_at piece_at comment_end_from is_include after tokens_from word_of is_omp expression line_from clauses_from worked in_blocks typed printed undefined all_read initialized in_full run enter breaks wrong sort_of advance place_code first_broken first_wrong kind_of holds is_atomic is_target depth_of collapse_from uses_of uses_from line_fault line_breaks line_wrong line_enter line_advance line_place line_first_broken line_first_wrong piece_on_line lexemes_from
no_body_captures = refl

a_default_map : written (codes "#pragma omp target defaultmap(tofrom: aggregate) map(tofrom: A)") ≡ words (codes "#pragma omp target map(tofrom: A)")
unfolding number_of hex_number_of number_piece sign_one sign_two sign_three changing_sign sign_at piece_at comment_end_from is_include after tokens_from word_of is_omp expression line_from clauses_from worked in_blocks typed printed undefined all_read initialized in_full run enter breaks wrong sort_of advance place_code first_broken first_wrong kind_of holds is_atomic is_target depth_of collapse_from uses_of uses_from line_fault line_breaks line_wrong line_enter line_advance line_place line_first_broken line_first_wrong piece_on_line lexemes_from
a_default_map = refl

of_pointers_too : written (codes "#pragma omp target map(tofrom: A) defaultmap(tofrom)") ≡ words (codes "#pragma omp target map(tofrom: A) defaultmap(tofrom)")
unfolding number_of hex_number_of number_piece sign_one sign_two sign_three changing_sign sign_at piece_at comment_end_from is_include after tokens_from word_of is_omp expression line_from clauses_from worked in_blocks typed printed undefined all_read initialized in_full run enter breaks wrong sort_of advance place_code first_broken first_wrong kind_of holds is_atomic is_target depth_of collapse_from uses_of uses_from line_fault line_breaks line_wrong line_enter line_advance line_place line_first_broken line_first_wrong piece_on_line lexemes_from
of_pointers_too = refl

of_scalars : written (codes "#pragma omp target teams distribute parallel for defaultmap(tofrom: scalar), num_teams(2)") ≡ words (codes "#pragma omp target teams distribute parallel for num_teams(2)")
unfolding number_of hex_number_of number_piece sign_one sign_two sign_three changing_sign sign_at piece_at comment_end_from is_include after tokens_from word_of is_omp expression line_from clauses_from worked in_blocks typed printed undefined all_read initialized in_full run enter breaks wrong sort_of advance place_code first_broken first_wrong kind_of holds is_atomic is_target depth_of collapse_from uses_of uses_from line_fault line_breaks line_wrong line_enter line_advance line_place line_first_broken line_first_wrong piece_on_line lexemes_from
of_scalars = refl

of_deferred_scalars : written (codes "#pragma omp target nowait defaultmap(tofrom: scalar)") ≡ words (codes "#pragma omp target nowait defaultmap(tofrom: scalar)")
unfolding number_of hex_number_of number_piece sign_one sign_two sign_three changing_sign sign_at piece_at comment_end_from is_include after tokens_from word_of is_omp expression line_from clauses_from worked in_blocks typed printed undefined all_read initialized in_full run enter breaks wrong sort_of advance place_code first_broken first_wrong kind_of holds is_atomic is_target depth_of collapse_from uses_of uses_from line_fault line_breaks line_wrong line_enter line_advance line_place line_first_broken line_first_wrong piece_on_line lexemes_from
of_deferred_scalars = refl

of_nothing : written (codes "#pragma omp target defaultmap(none)") ≡ words (codes "#pragma omp target defaultmap(none)")
unfolding number_of hex_number_of number_piece sign_one sign_two sign_three changing_sign sign_at piece_at comment_end_from is_include after tokens_from word_of is_omp expression line_from clauses_from worked in_blocks typed printed undefined all_read initialized in_full run enter breaks wrong sort_of advance place_code first_broken first_wrong kind_of holds is_atomic is_target depth_of collapse_from uses_of uses_from line_fault line_breaks line_wrong line_enter line_advance line_place line_first_broken line_first_wrong piece_on_line lexemes_from
of_nothing = refl

of_pointers : written (codes "#pragma omp target defaultmap(tofrom: pointer)") ≡ words (codes "#pragma omp target defaultmap(tofrom: pointer)")
unfolding number_of hex_number_of number_piece sign_one sign_two sign_three changing_sign sign_at piece_at comment_end_from is_include after tokens_from word_of is_omp expression line_from clauses_from worked in_blocks typed printed undefined all_read initialized in_full run enter breaks wrong sort_of advance place_code first_broken first_wrong kind_of holds is_atomic is_target depth_of collapse_from uses_of uses_from line_fault line_breaks line_wrong line_enter line_advance line_place line_first_broken line_first_wrong piece_on_line lexemes_from
of_pointers = refl

of_no_region : written (codes "#pragma omp target data defaultmap(tofrom) map(to: A)") ≡ words (codes "#pragma omp target data defaultmap(tofrom) map(to: A)")
unfolding number_of hex_number_of number_piece sign_one sign_two sign_three changing_sign sign_at piece_at comment_end_from is_include after tokens_from word_of is_omp expression line_from clauses_from worked in_blocks typed printed undefined all_read initialized in_full run enter breaks wrong sort_of advance place_code first_broken first_wrong kind_of holds is_atomic is_target depth_of collapse_from uses_of uses_from line_fault line_breaks line_wrong line_enter line_advance line_place line_first_broken line_first_wrong piece_on_line lexemes_from
of_no_region = refl

nothing_waits_for_scalars : written (codes "#pragma omp taskwait firstprivate(n)") ≡ words (codes "#pragma omp taskwait firstprivate(n)")
unfolding number_of hex_number_of number_piece sign_one sign_two sign_three changing_sign sign_at piece_at comment_end_from is_include after tokens_from word_of is_omp expression line_from clauses_from worked in_blocks typed printed undefined all_read initialized in_full run enter breaks wrong sort_of advance place_code first_broken first_wrong kind_of holds is_atomic is_target depth_of collapse_from uses_of uses_from line_fault line_breaks line_wrong line_enter line_advance line_place line_first_broken line_first_wrong piece_on_line lexemes_from
nothing_waits_for_scalars = refl

nothing_is_shared : written (codes "#pragma omp target parallel for shared()") ≡ words (codes "#pragma omp target parallel for shared()")
unfolding number_of hex_number_of number_piece sign_one sign_two sign_three changing_sign sign_at piece_at comment_end_from is_include after tokens_from word_of is_omp expression line_from clauses_from worked in_blocks typed printed undefined all_read initialized in_full run enter breaks wrong sort_of advance place_code first_broken first_wrong kind_of holds is_atomic is_target depth_of collapse_from uses_of uses_from line_fault line_breaks line_wrong line_enter line_advance line_place line_first_broken line_first_wrong piece_on_line lexemes_from
nothing_is_shared = refl

comma_in_a_list : written (codes "#pragma omp target parallel for shared(A,) nowait") ≡ words (codes "#pragma omp target parallel for shared(A,) nowait")
unfolding number_of hex_number_of number_piece sign_one sign_two sign_three changing_sign sign_at piece_at comment_end_from is_include after tokens_from word_of is_omp expression line_from clauses_from worked in_blocks typed printed undefined all_read initialized in_full run enter breaks wrong sort_of advance place_code first_broken first_wrong kind_of holds is_atomic is_target depth_of collapse_from uses_of uses_from line_fault line_breaks line_wrong line_enter line_advance line_place line_first_broken line_first_wrong piece_on_line lexemes_from
comma_in_a_list = refl

list_without_end : written (codes "#pragma omp target parallel for shared(A, B") ≡ words (codes "#pragma omp target parallel for shared(A, B")
unfolding number_of hex_number_of number_piece sign_one sign_two sign_three changing_sign sign_at piece_at comment_end_from is_include after tokens_from word_of is_omp expression line_from clauses_from worked in_blocks typed printed undefined all_read initialized in_full run enter breaks wrong sort_of advance place_code first_broken first_wrong kind_of holds is_atomic is_target depth_of collapse_from uses_of uses_from line_fault line_breaks line_wrong line_enter line_advance line_place line_first_broken line_first_wrong piece_on_line lexemes_from
list_without_end = refl

comma_behind_the_last : written (codes "#pragma omp target parallel for shared(A),") ≡ words (codes "#pragma omp target parallel for shared(A),")
unfolding number_of hex_number_of number_piece sign_one sign_two sign_three changing_sign sign_at piece_at comment_end_from is_include after tokens_from word_of is_omp expression line_from clauses_from worked in_blocks typed printed undefined all_read initialized in_full run enter breaks wrong sort_of advance place_code first_broken first_wrong kind_of holds is_atomic is_target depth_of collapse_from uses_of uses_from line_fault line_breaks line_wrong line_enter line_advance line_place line_first_broken line_first_wrong piece_on_line lexemes_from
comma_behind_the_last = refl

two_commas_behind : written (codes "#pragma omp target parallel for shared(A),, nowait") ≡ words (codes "#pragma omp target parallel for shared(A),, nowait")
unfolding number_of hex_number_of number_piece sign_one sign_two sign_three changing_sign sign_at piece_at comment_end_from is_include after tokens_from word_of is_omp expression line_from clauses_from worked in_blocks typed printed undefined all_read initialized in_full run enter breaks wrong sort_of advance place_code first_broken first_wrong kind_of holds is_atomic is_target depth_of collapse_from uses_of uses_from line_fault line_breaks line_wrong line_enter line_advance line_place line_first_broken line_first_wrong piece_on_line lexemes_from
two_commas_behind = refl

other_defaults : written (codes "#pragma omp target parallel for default(private) default(shared, shared) private(n)") ≡ words (codes "#pragma omp target parallel for default(private) default(shared, shared) private(n)")
unfolding number_of hex_number_of number_piece sign_one sign_two sign_three changing_sign sign_at piece_at comment_end_from is_include after tokens_from word_of is_omp expression line_from clauses_from worked in_blocks typed printed undefined all_read initialized in_full run enter breaks wrong sort_of advance place_code first_broken first_wrong kind_of holds is_atomic is_target depth_of collapse_from uses_of uses_from line_fault line_breaks line_wrong line_enter line_advance line_place line_first_broken line_first_wrong piece_on_line lexemes_from
other_defaults = refl

clause_among_the_words : written (codes "#pragma omp target firstprivate(n) parallel for") ≡ words (codes "#pragma omp target firstprivate(n) parallel for")
unfolding number_of hex_number_of number_piece sign_one sign_two sign_three changing_sign sign_at piece_at comment_end_from is_include after tokens_from word_of is_omp expression line_from clauses_from worked in_blocks typed printed undefined all_read initialized in_full run enter breaks wrong sort_of advance place_code first_broken first_wrong kind_of holds is_atomic is_target depth_of collapse_from uses_of uses_from line_fault line_breaks line_wrong line_enter line_advance line_place line_first_broken line_first_wrong piece_on_line lexemes_from
clause_among_the_words = refl

clause_before_a_loop : written (codes "#pragma omp target parallel shared(A) for") ≡ words (codes "#pragma omp target parallel shared(A) for")
unfolding number_of hex_number_of number_piece sign_one sign_two sign_three changing_sign sign_at piece_at comment_end_from is_include after tokens_from word_of is_omp expression line_from clauses_from worked in_blocks typed printed undefined all_read initialized in_full run enter breaks wrong sort_of advance place_code first_broken first_wrong kind_of holds is_atomic is_target depth_of collapse_from uses_of uses_from line_fault line_breaks line_wrong line_enter line_advance line_place line_first_broken line_first_wrong piece_on_line lexemes_from
clause_before_a_loop = refl

clause_in_brackets : written (codes "#pragma omp target parallel for num_threads((n) * default(shared))") ≡ words (codes "#pragma omp target parallel for num_threads((n) * default(shared))")
unfolding number_of hex_number_of number_piece sign_one sign_two sign_three changing_sign sign_at piece_at comment_end_from is_include after tokens_from word_of is_omp expression line_from clauses_from worked in_blocks typed printed undefined all_read initialized in_full run enter breaks wrong sort_of advance place_code first_broken first_wrong kind_of holds is_atomic is_target depth_of collapse_from uses_of uses_from line_fault line_breaks line_wrong line_enter line_advance line_place line_first_broken line_first_wrong piece_on_line lexemes_from
clause_in_brackets = refl

type_is_there : written (codes "#pragma omp target map(to: A[n:2]) map(always, from: B)") ≡ words (codes "#pragma omp target map(to: A[n:2]) map(always, from: B)")
unfolding number_of hex_number_of number_piece sign_one sign_two sign_three changing_sign sign_at piece_at comment_end_from is_include after tokens_from word_of is_omp expression line_from clauses_from worked in_blocks typed printed undefined all_read initialized in_full run enter breaks wrong sort_of advance place_code first_broken first_wrong kind_of holds is_atomic is_target depth_of collapse_from uses_of uses_from line_fault line_breaks line_wrong line_enter line_advance line_place line_first_broken line_first_wrong piece_on_line lexemes_from
type_is_there = refl

no_items : written (codes "#pragma omp target map() map(A,) map(,A) map(A B) map(A[0:1) map(A") ≡ words (codes "#pragma omp target map() map(A,) map(,A) map(A B) map(A[0:1) map(A")
unfolding number_of hex_number_of number_piece sign_one sign_two sign_three changing_sign sign_at piece_at comment_end_from is_include after tokens_from word_of is_omp expression line_from clauses_from worked in_blocks typed printed undefined all_read initialized in_full run enter breaks wrong sort_of advance place_code first_broken first_wrong kind_of holds is_atomic is_target depth_of collapse_from uses_of uses_from line_fault line_breaks line_wrong line_enter line_advance line_place line_first_broken line_first_wrong piece_on_line lexemes_from
no_items = refl

items_in_brackets : written (codes "#pragma omp target device(map(A))") ≡ words (codes "#pragma omp target device(map(A))")
unfolding number_of hex_number_of number_piece sign_one sign_two sign_three changing_sign sign_at piece_at comment_end_from is_include after tokens_from word_of is_omp expression line_from clauses_from worked in_blocks typed printed undefined all_read initialized in_full run enter breaks wrong sort_of advance place_code first_broken first_wrong kind_of holds is_atomic is_target depth_of collapse_from uses_of uses_from line_fault line_breaks line_wrong line_enter line_advance line_place line_first_broken line_first_wrong piece_on_line lexemes_from
items_in_brackets = refl

-- ---- sources

clauses_of_a_loop : fault_in (lines (codes "uint64_t A[8]; uint64_t n; int main(void) {" ∷ codes "#pragma omp target teams distribute parallel for map(A[0:8]), default(shared), shared(A), firstprivate(n)" ∷ codes "for (uint64_t i = 0; i < 2; i++) { A[i] = n; } }" ∷ [])) ≡ None
unfolding number_of hex_number_of number_piece sign_one sign_two sign_three changing_sign sign_at piece_at comment_end_from is_include after tokens_from word_of is_omp expression line_from clauses_from worked in_blocks typed printed undefined all_read initialized in_full run enter breaks wrong sort_of advance place_code first_broken first_wrong kind_of holds is_atomic is_target depth_of collapse_from uses_of uses_from line_fault line_breaks line_wrong line_enter line_advance line_place line_first_broken line_first_wrong piece_on_line lexemes_from
clauses_of_a_loop = refl

captured_array : fault_in (lines (codes "uint64_t A[8]; uint64_t n; int main(void) {" ∷ codes "#pragma omp target teams loop firstprivate(A)" ∷ codes "for (uint64_t i = 0; i < 2; i++) { A[i] = n; } }" ∷ [])) ≡ at UnknownClause 2 31
unfolding number_of hex_number_of number_piece sign_one sign_two sign_three changing_sign sign_at piece_at comment_end_from is_include after tokens_from word_of is_omp expression line_from clauses_from worked in_blocks typed printed undefined all_read initialized in_full run enter breaks wrong sort_of advance place_code first_broken first_wrong kind_of holds is_atomic is_target depth_of collapse_from uses_of uses_from line_fault line_breaks line_wrong line_enter line_advance line_place line_first_broken line_first_wrong piece_on_line lexemes_from
captured_array = refl

shared_without_a_declaration : fault_in (lines (codes "uint64_t A[8]; uint64_t n; int main(void) {" ∷ codes "#pragma omp target parallel for shared(x)" ∷ codes "for (uint64_t i = 0; i < 2; i++) { A[i] = n; } }" ∷ [])) ≡ at UnknownClause 2 33
unfolding number_of hex_number_of number_piece sign_one sign_two sign_three changing_sign sign_at piece_at comment_end_from is_include after tokens_from word_of is_omp expression line_from clauses_from worked in_blocks typed printed undefined all_read initialized in_full run enter breaks wrong sort_of advance place_code first_broken first_wrong kind_of holds is_atomic is_target depth_of collapse_from uses_of uses_from line_fault line_breaks line_wrong line_enter line_advance line_place line_first_broken line_first_wrong piece_on_line lexemes_from
shared_without_a_declaration = refl

shared_before_its_declaration : fault_in (lines (codes "uint64_t A[8]; uint64_t n; int main(void) {" ∷ codes "#pragma omp target parallel for shared(i)" ∷ codes "for (uint64_t i = 0; i < 2; i++) { A[i] = n; } }" ∷ [])) ≡ at UnknownClause 2 33
unfolding number_of hex_number_of number_piece sign_one sign_two sign_three changing_sign sign_at piece_at comment_end_from is_include after tokens_from word_of is_omp expression line_from clauses_from worked in_blocks typed printed undefined all_read initialized in_full run enter breaks wrong sort_of advance place_code first_broken first_wrong kind_of holds is_atomic is_target depth_of collapse_from uses_of uses_from line_fault line_breaks line_wrong line_enter line_advance line_place line_first_broken line_first_wrong piece_on_line lexemes_from
shared_before_its_declaration = refl

mapped_scalar : fault_in (lines (codes "uint64_t A[8]; uint64_t n; int main(void) {" ∷ codes "#pragma omp target map(n)" ∷ codes "{ } }" ∷ [])) ≡ at Undeclared 2 24
unfolding number_of hex_number_of number_piece sign_one sign_two sign_three changing_sign sign_at piece_at comment_end_from is_include after tokens_from word_of is_omp expression line_from clauses_from worked in_blocks typed printed undefined all_read initialized in_full run enter breaks wrong sort_of advance place_code first_broken first_wrong kind_of holds is_atomic is_target depth_of collapse_from uses_of uses_from line_fault line_breaks line_wrong line_enter line_advance line_place line_first_broken line_first_wrong piece_on_line lexemes_from
mapped_scalar = refl

mapped_nothing : fault_in (lines (codes "uint64_t A[8]; uint64_t n; int main(void) {" ∷ codes "#pragma omp target map()" ∷ codes "{ } }" ∷ [])) ≡ at BadMapType 2 24
unfolding number_of hex_number_of number_piece sign_one sign_two sign_three changing_sign sign_at piece_at comment_end_from is_include after tokens_from word_of is_omp expression line_from clauses_from worked in_blocks typed printed undefined all_read initialized in_full run enter breaks wrong sort_of advance place_code first_broken first_wrong kind_of holds is_atomic is_target depth_of collapse_from uses_of uses_from line_fault line_breaks line_wrong line_enter line_advance line_place line_first_broken line_first_wrong piece_on_line lexemes_from
mapped_nothing = refl

mapped_with_a_comma : fault_in (lines (codes "uint64_t A[8]; uint64_t n; int main(void) {" ∷ codes "#pragma omp target map(A,)" ∷ codes "{ } }" ∷ [])) ≡ at BadMapType 2 24
unfolding number_of hex_number_of number_piece sign_one sign_two sign_three changing_sign sign_at piece_at comment_end_from is_include after tokens_from word_of is_omp expression line_from clauses_from worked in_blocks typed printed undefined all_read initialized in_full run enter breaks wrong sort_of advance place_code first_broken first_wrong kind_of holds is_atomic is_target depth_of collapse_from uses_of uses_from line_fault line_breaks line_wrong line_enter line_advance line_place line_first_broken line_first_wrong piece_on_line lexemes_from
mapped_with_a_comma = refl

shared_by_no_threads : fault_in (lines (codes "uint64_t A[8]; uint64_t n; int main(void) {" ∷ codes "#pragma omp target shared(A)" ∷ codes "{ } }" ∷ [])) ≡ at UnknownClause 2 20
unfolding number_of hex_number_of number_piece sign_one sign_two sign_three changing_sign sign_at piece_at comment_end_from is_include after tokens_from word_of is_omp expression line_from clauses_from worked in_blocks typed printed undefined all_read initialized in_full run enter breaks wrong sort_of advance place_code first_broken first_wrong kind_of holds is_atomic is_target depth_of collapse_from uses_of uses_from line_fault line_breaks line_wrong line_enter line_advance line_place line_first_broken line_first_wrong piece_on_line lexemes_from
shared_by_no_threads = refl

captured_among_the_words : fault_in (lines (codes "uint64_t A[8]; uint64_t n; int main(void) {" ∷ codes "#pragma omp target firstprivate(n) parallel for" ∷ codes "for (uint64_t i = 0; i < 2; i++) { A[i] = n; } }" ∷ [])) ≡ at UnknownClause 2 20
unfolding number_of hex_number_of number_piece sign_one sign_two sign_three changing_sign sign_at piece_at comment_end_from is_include after tokens_from word_of is_omp expression line_from clauses_from worked in_blocks typed printed undefined all_read initialized in_full run enter breaks wrong sort_of advance place_code first_broken first_wrong kind_of holds is_atomic is_target depth_of collapse_from uses_of uses_from line_fault line_breaks line_wrong line_enter line_advance line_place line_first_broken line_first_wrong piece_on_line lexemes_from
captured_among_the_words = refl
