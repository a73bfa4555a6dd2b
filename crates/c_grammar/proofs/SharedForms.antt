-- What is answered of sources whose turns share the name of a loop, sum up other cells than are mapped, order by a pointer, or
-- have a condition of the target alone, by computation.
use Rattle.std.proofs.Common.{◌≡◌, ℕ, List, [], ◌∷◌, ◌++◌, Option, Some, None, refl}
use Rattle.std.specs.Prelude.{codes}
use Rattle.base.specs.declared.fault.TextFault.{TextFault}
use Rattle.base.specs.declared.fault.ReadCode.{ReadCode as Code}
use Rattle.base.specs.declared.fault.ReadCode.TheVariants.{UnknownClause}
use Rattle.c_tokens.specs.Piece.{number_of, hex_number_of, number_piece, sign_one, sign_two, sign_three, changing_sign, sign_at, format_at, piece_at, comment_end_from, is_include}
use Rattle.c_tokens.specs.Text.{after, tokens_from}
use Rattle.c_grammar.specs.Lexeme.{word_of, piece_on_line, lexemes_from}
use Rattle.c_grammar.specs.Lines.{is_omp, kind_of, holds, is_atomic, is_target, depth_of, collapse_from, uses_of, uses_from, line_fault}
use Rattle.c_grammar.specs.LineRules.{line_breaks, line_wrong, line_enter}
use Rattle.c_grammar.specs.LineMachine.{line_advance, line_place, line_first_broken, line_first_wrong}
use Rattle.c_grammar.specs.Expressions.{expression}
use Rattle.c_grammar.specs.Functions.{index_len}
use Rattle.c_grammar.specs.LineForms.{line_from}
use Rattle.c_grammar.specs.Constants.{worked, undefined}
use Rattle.c_grammar.specs.Changes.{in_full}
use Rattle.c_grammar.specs.Allocations.{all_read}
use Rattle.c_grammar.specs.Clauses.{clauses_from}
use Rattle.c_grammar.specs.Initial.{initialized}
use Rattle.c_grammar.specs.Blocks.{typed, in_blocks}
use Rattle.c_grammar.specs.Prints.{printed}
use Rattle.c_grammar.specs.Machine.{run}
use Rattle.c_grammar.specs.Rules.{enter, breaks, wrong, sort_of}
use Rattle.c_grammar.specs.Program.{advance, place_code, first_broken, first_wrong}
use Rattle.c_grammar.specs.Source.{fault_in}

abbrev at : Code → ℕ → ℕ → Option TextFault
at code line column = Some (record { code = code; line = line; column = column })

abbrev lines : List (List ℕ) → List ℕ
lines [] = []
lines (l ∷ ls) = l ++ (10 ∷ lines ls)

-- the lines of main, behind the declaration of an array and a scalar
abbrev fault : List (List ℕ) → Option TextFault
fault ls = fault_in (lines (codes "uint64_t A[16], x; int main() {" ∷ (ls ++ codes "}" ∷ [])))

-- the name of an inner loop, which the turns share
inner_loop : fault (codes "int i, j;" ∷ codes "#pragma omp target teams distribute parallel for" ∷ codes "for (i = 0; i < 4; i++) for (j = 0; j < 4; j++) A[4 * i + j] = j;" ∷ []) ≡ at UnknownClause 3 13
unfolding index_len number_of hex_number_of number_piece sign_one sign_two sign_three changing_sign sign_at format_at piece_at comment_end_from is_include after tokens_from word_of is_omp expression line_from clauses_from worked in_blocks typed printed undefined all_read initialized in_full run enter breaks wrong sort_of advance place_code first_broken first_wrong kind_of holds is_atomic is_target depth_of collapse_from uses_of uses_from line_fault line_breaks line_wrong line_enter line_advance line_place line_first_broken line_first_wrong piece_on_line lexemes_from
inner_loop = refl

-- one thread has it alone
of_a_target : fault (codes "int i, j;" ∷ codes "#pragma omp target" ∷ codes "for (i = 0; i < 4; i++) for (j = 0; j < 4; j++) A[4 * i + j] = j;" ∷ []) ≡ None
unfolding index_len number_of hex_number_of number_piece sign_one sign_two sign_three changing_sign sign_at format_at piece_at comment_end_from is_include after tokens_from word_of is_omp expression line_from clauses_from worked in_blocks typed printed undefined all_read initialized in_full run enter breaks wrong sort_of advance place_code first_broken first_wrong kind_of holds is_atomic is_target depth_of collapse_from uses_of uses_from line_fault line_breaks line_wrong line_enter line_advance line_place line_first_broken line_first_wrong piece_on_line lexemes_from
of_a_target = refl

-- the loops of the construct have their own
of_the_construct : fault (codes "int i, j;" ∷ codes "#pragma omp target teams distribute parallel for collapse(2)" ∷ codes "for (i = 0; i < 4; i++) for (j = 0; j < 4; j++) A[4 * i + j] = j;" ∷ []) ≡ None
unfolding index_len number_of hex_number_of number_piece sign_one sign_two sign_three changing_sign sign_at format_at piece_at comment_end_from is_include after tokens_from word_of is_omp expression line_from clauses_from worked in_blocks typed printed undefined all_read initialized in_full run enter breaks wrong sort_of advance place_code first_broken first_wrong kind_of holds is_atomic is_target depth_of collapse_from uses_of uses_from line_fault line_breaks line_wrong line_enter line_advance line_place line_first_broken line_first_wrong piece_on_line lexemes_from
of_the_construct = refl

behind_the_construct : fault (codes "int i, j, k;" ∷ codes "#pragma omp target teams distribute parallel for collapse(2)" ∷ codes "for (i = 0; i < 4; i++) for (j = 0; j < 4; j++) for (k = 0; k < 4; k++) A[4 * i + j] = k;" ∷ []) ≡ at UnknownClause 3 13
unfolding index_len number_of hex_number_of number_piece sign_one sign_two sign_three changing_sign sign_at format_at piece_at comment_end_from is_include after tokens_from word_of is_omp expression line_from clauses_from worked in_blocks typed printed undefined all_read initialized in_full run enter breaks wrong sort_of advance place_code first_broken first_wrong kind_of holds is_atomic is_target depth_of collapse_from uses_of uses_from line_fault line_breaks line_wrong line_enter line_advance line_place line_first_broken line_first_wrong piece_on_line lexemes_from
behind_the_construct = refl

-- so does each turn
private_to_each : fault (codes "int i, j;" ∷ codes "#pragma omp target teams distribute parallel for private(j)" ∷ codes "for (i = 0; i < 4; i++) for (j = 0; j < 4; j++) A[4 * i + j] = j;" ∷ []) ≡ None
unfolding index_len number_of hex_number_of number_piece sign_one sign_two sign_three changing_sign sign_at format_at piece_at comment_end_from is_include after tokens_from word_of is_omp expression line_from clauses_from worked in_blocks typed printed undefined all_read initialized in_full run enter breaks wrong sort_of advance place_code first_broken first_wrong kind_of holds is_atomic is_target depth_of collapse_from uses_of uses_from line_fault line_breaks line_wrong line_enter line_advance line_place line_first_broken line_first_wrong piece_on_line lexemes_from
private_to_each = refl

declared_in_the_head : fault (codes "int i;" ∷ codes "#pragma omp target teams distribute parallel for" ∷ codes "for (i = 0; i < 4; i++) for (int j = 0; j < 4; j++) A[4 * i + j] = j;" ∷ []) ≡ None
unfolding index_len number_of hex_number_of number_piece sign_one sign_two sign_three changing_sign sign_at format_at piece_at comment_end_from is_include after tokens_from word_of is_omp expression line_from clauses_from worked in_blocks typed printed undefined all_read initialized in_full run enter breaks wrong sort_of advance place_code first_broken first_wrong kind_of holds is_atomic is_target depth_of collapse_from uses_of uses_from line_fault line_breaks line_wrong line_enter line_advance line_place line_first_broken line_first_wrong piece_on_line lexemes_from
declared_in_the_head = refl

declared_in_the_body : fault (codes "int i;" ∷ codes "#pragma omp target teams distribute parallel for" ∷ codes "for (i = 0; i < 4; i++) { int j, k; for (k = 0; k < 1; k++) for (j = 0; j < 4; j++) A[4 * i + j] = j; }" ∷ []) ≡ None
unfolding index_len number_of hex_number_of number_piece sign_one sign_two sign_three changing_sign sign_at format_at piece_at comment_end_from is_include after tokens_from word_of is_omp expression line_from clauses_from worked in_blocks typed printed undefined all_read initialized in_full run enter breaks wrong sort_of advance place_code first_broken first_wrong kind_of holds is_atomic is_target depth_of collapse_from uses_of uses_from line_fault line_breaks line_wrong line_enter line_advance line_place line_first_broken line_first_wrong piece_on_line lexemes_from
declared_in_the_body = refl

-- sums of other cells than those that are mapped
sum_of_fewer : fault (codes "#pragma omp target teams distribute parallel for map(tofrom: A[0:8]) reduction(+: A[0:2])" ∷ codes "for (int i = 0; i < 8; i++) A[i % 2] += 1;" ∷ []) ≡ at UnknownClause 2 13
unfolding index_len number_of hex_number_of number_piece sign_one sign_two sign_three changing_sign sign_at format_at piece_at comment_end_from is_include after tokens_from word_of is_omp expression line_from clauses_from worked in_blocks typed printed undefined all_read initialized in_full run enter breaks wrong sort_of advance place_code first_broken first_wrong kind_of holds is_atomic is_target depth_of collapse_from uses_of uses_from line_fault line_breaks line_wrong line_enter line_advance line_place line_first_broken line_first_wrong piece_on_line lexemes_from
sum_of_fewer = refl

sum_of_all : fault (codes "#pragma omp target teams distribute parallel for map(tofrom: A[0:2]) reduction(+: A)" ∷ codes "for (int i = 0; i < 8; i++) A[i % 2] += 1;" ∷ []) ≡ at UnknownClause 2 13
unfolding index_len number_of hex_number_of number_piece sign_one sign_two sign_three changing_sign sign_at format_at piece_at comment_end_from is_include after tokens_from word_of is_omp expression line_from clauses_from worked in_blocks typed printed undefined all_read initialized in_full run enter breaks wrong sort_of advance place_code first_broken first_wrong kind_of holds is_atomic is_target depth_of collapse_from uses_of uses_from line_fault line_breaks line_wrong line_enter line_advance line_place line_first_broken line_first_wrong piece_on_line lexemes_from
sum_of_all = refl

sum_of_the_same : fault (codes "#pragma omp target teams distribute parallel for map(tofrom: A[0:2]) reduction(+: A[0:2])" ∷ codes "for (int i = 0; i < 8; i++) A[i % 2] += 1;" ∷ []) ≡ None
unfolding index_len number_of hex_number_of number_piece sign_one sign_two sign_three changing_sign sign_at format_at piece_at comment_end_from is_include after tokens_from word_of is_omp expression line_from clauses_from worked in_blocks typed printed undefined all_read initialized in_full run enter breaks wrong sort_of advance place_code first_broken first_wrong kind_of holds is_atomic is_target depth_of collapse_from uses_of uses_from line_fault line_breaks line_wrong line_enter line_advance line_place line_first_broken line_first_wrong piece_on_line lexemes_from
sum_of_the_same = refl

-- a pointer orders by itself, in a clause depend without a section
ordered_by_a_pointer : fault (codes "uint64_t *a = malloc(8 * sizeof(uint64_t));" ∷ codes "#pragma omp target map(tofrom: a[0:8]) depend(inout: a)" ∷ codes "{ a[0] = 1; }" ∷ codes "free(a);" ∷ []) ≡ at UnknownClause 3 13
unfolding index_len number_of hex_number_of number_piece sign_one sign_two sign_three changing_sign sign_at format_at piece_at comment_end_from is_include after tokens_from word_of is_omp expression line_from clauses_from worked in_blocks typed printed undefined all_read initialized in_full run enter breaks wrong sort_of advance place_code first_broken first_wrong kind_of holds is_atomic is_target depth_of collapse_from uses_of uses_from line_fault line_breaks line_wrong line_enter line_advance line_place line_first_broken line_first_wrong piece_on_line lexemes_from
ordered_by_a_pointer = refl

waits_for_a_pointer : fault (codes "uint64_t *a = malloc(8 * sizeof(uint64_t));" ∷ codes "#pragma omp taskwait depend(in: a)" ∷ codes "free(a);" ∷ []) ≡ at UnknownClause 3 13
unfolding index_len number_of hex_number_of number_piece sign_one sign_two sign_three changing_sign sign_at format_at piece_at comment_end_from is_include after tokens_from word_of is_omp expression line_from clauses_from worked in_blocks typed printed undefined all_read initialized in_full run enter breaks wrong sort_of advance place_code first_broken first_wrong kind_of holds is_atomic is_target depth_of collapse_from uses_of uses_from line_fault line_breaks line_wrong line_enter line_advance line_place line_first_broken line_first_wrong piece_on_line lexemes_from
waits_for_a_pointer = refl

ordered_by_cells : fault (codes "uint64_t *a = malloc(8 * sizeof(uint64_t));" ∷ codes "#pragma omp target map(tofrom: a[0:8]) depend(inout: a[0:8])" ∷ codes "{ a[0] = 1; }" ∷ codes "free(a);" ∷ []) ≡ None
unfolding index_len number_of hex_number_of number_piece sign_one sign_two sign_three changing_sign sign_at format_at piece_at comment_end_from is_include after tokens_from word_of is_omp expression line_from clauses_from worked in_blocks typed printed undefined all_read initialized in_full run enter breaks wrong sort_of advance place_code first_broken first_wrong kind_of holds is_atomic is_target depth_of collapse_from uses_of uses_from line_fault line_breaks line_wrong line_enter line_advance line_place line_first_broken line_first_wrong piece_on_line lexemes_from
ordered_by_cells = refl

-- a condition of the target alone, which leaves threads where it is 0
condition_that_holds : fault (codes "#pragma omp target if(2 > 1) map(tofrom: A)" ∷ codes "#pragma omp parallel for" ∷ codes "for (int i = 0; i < 8; i++) A[i] = i;" ∷ []) ≡ None
unfolding index_len number_of hex_number_of number_piece sign_one sign_two sign_three changing_sign sign_at format_at piece_at comment_end_from is_include after tokens_from word_of is_omp expression line_from clauses_from worked in_blocks typed printed undefined all_read initialized in_full run enter breaks wrong sort_of advance place_code first_broken first_wrong kind_of holds is_atomic is_target depth_of collapse_from uses_of uses_from line_fault line_breaks line_wrong line_enter line_advance line_place line_first_broken line_first_wrong piece_on_line lexemes_from
condition_that_holds = refl

condition_that_does_not : fault (codes "#pragma omp target if(1 > 2) map(tofrom: A)" ∷ codes "#pragma omp parallel for" ∷ codes "for (int i = 0; i < 8; i++) A[i] = i;" ∷ []) ≡ at UnknownClause 2 20
unfolding index_len number_of hex_number_of number_piece sign_one sign_two sign_three changing_sign sign_at format_at piece_at comment_end_from is_include after tokens_from word_of is_omp expression line_from clauses_from worked in_blocks typed printed undefined all_read initialized in_full run enter breaks wrong sort_of advance place_code first_broken first_wrong kind_of holds is_atomic is_target depth_of collapse_from uses_of uses_from line_fault line_breaks line_wrong line_enter line_advance line_place line_first_broken line_first_wrong piece_on_line lexemes_from
condition_that_does_not = refl

condition_of_threads_too : fault (codes "#pragma omp target parallel if(1 > 2) map(tofrom: A)" ∷ codes "#pragma omp for" ∷ codes "for (int i = 0; i < 8; i++) A[i] = i;" ∷ []) ≡ None
unfolding index_len number_of hex_number_of number_piece sign_one sign_two sign_three changing_sign sign_at format_at piece_at comment_end_from is_include after tokens_from word_of is_omp expression line_from clauses_from worked in_blocks typed printed undefined all_read initialized in_full run enter breaks wrong sort_of advance place_code first_broken first_wrong kind_of holds is_atomic is_target depth_of collapse_from uses_of uses_from line_fault line_breaks line_wrong line_enter line_advance line_place line_first_broken line_first_wrong piece_on_line lexemes_from
condition_of_threads_too = refl
