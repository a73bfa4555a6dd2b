-- What is answered of sources with clauses private, and of scalars that are assigned before all else, by computation.
use Rattle.std.proofs.Common.{◌≡◌, ℕ, List, [], ◌∷◌, ◌++◌, Option, Some, None, refl}
use Rattle.std.specs.Prelude.{codes}
use Rattle.base.specs.declared.fault.TextFault.{TextFault}
use Rattle.base.specs.declared.fault.ReadCode.{ReadCode as Code}
use Rattle.base.specs.declared.fault.ReadCode.TheVariants.{Undeclared, UnknownClause}
use Rattle.c_tokens.specs.Piece.{number_of, hex_number_of, number_piece, sign_one, sign_two, sign_three, changing_sign, sign_at, format_at, piece_at, comment_end_from, is_include}
use Rattle.c_tokens.specs.Text.{after, tokens_from}
use Rattle.c_grammar.specs.Lexeme.{word_of, piece_on_line, lexemes_from}
use Rattle.c_grammar.specs.Lines.{is_omp, kind_of, holds, is_atomic, is_target, depth_of, collapse_from, uses_of, uses_from, line_fault}
use Rattle.c_grammar.specs.LineRules.{line_breaks, line_wrong, line_enter}
use Rattle.c_grammar.specs.LineMachine.{line_advance, line_place, line_first_broken, line_first_wrong}
use Rattle.c_grammar.specs.Expressions.{expression}
use Rattle.c_grammar.specs.Functions.{index_len}
use Rattle.c_grammar.specs.LineForms.{line_from}
use Rattle.c_grammar.specs.Constants.{worked, undefined}
use Rattle.c_grammar.specs.Changes.{in_full}
use Rattle.c_grammar.specs.Allocations.{all_read}
use Rattle.c_grammar.specs.Clauses.{clauses_from}
use Rattle.c_grammar.specs.Initial.{initialized}
use Rattle.c_grammar.specs.Blocks.{typed, in_blocks}
use Rattle.c_grammar.specs.Prints.{printed}
use Rattle.c_grammar.specs.Machine.{run}
use Rattle.c_grammar.specs.Rules.{enter, breaks, wrong, sort_of}
use Rattle.c_grammar.specs.Program.{advance, place_code, first_broken, first_wrong}
use Rattle.c_grammar.specs.Source.{fault_in}

abbrev at : Code → ℕ → ℕ → Option TextFault
at code line column = Some (record { code = code; line = line; column = column })

abbrev lines : List (List ℕ) → List ℕ
lines [] = []
lines (l ∷ ls) = l ++ (10 ∷ lines ls)

-- the lines of main, behind the declaration of an array and a scalar
abbrev fault : List (List ℕ) → Option TextFault
fault ls = fault_in (lines (codes "uint64_t A[16], x; int main() {" ∷ (ls ++ codes "}" ∷ [])))

-- names of loops, which the region declares
of_loops : fault (codes "int i, j;" ∷ codes "#pragma omp target teams distribute parallel for private(i, j)" ∷ codes "for (i = 0; i < 4; i++) for (j = 0; j < 4; j++) A[4 * i + j] = j;" ∷ []) ≡ None
unfolding index_len number_of hex_number_of number_piece sign_one sign_two sign_three changing_sign sign_at format_at piece_at comment_end_from is_include after tokens_from word_of is_omp expression line_from clauses_from worked in_blocks typed printed undefined all_read initialized in_full run enter breaks wrong sort_of advance place_code first_broken first_wrong kind_of holds is_atomic is_target depth_of collapse_from uses_of uses_from line_fault line_breaks line_wrong line_enter line_advance line_place line_first_broken line_first_wrong piece_on_line lexemes_from
of_loops = refl

of_the_inner_loop : fault (codes "int i, j;" ∷ codes "#pragma omp target teams distribute parallel for map(tofrom: A[0:16]) private(j)" ∷ codes "for (i = 0; i < 4; i++) for (j = 0; j < 4; j++) A[4 * i + j] = j;" ∷ []) ≡ None
unfolding index_len number_of hex_number_of number_piece sign_one sign_two sign_three changing_sign sign_at format_at piece_at comment_end_from is_include after tokens_from word_of is_omp expression line_from clauses_from worked in_blocks typed printed undefined all_read initialized in_full run enter breaks wrong sort_of advance place_code first_broken first_wrong kind_of holds is_atomic is_target depth_of collapse_from uses_of uses_from line_fault line_breaks line_wrong line_enter line_advance line_place line_first_broken line_first_wrong piece_on_line lexemes_from
of_the_inner_loop = refl

-- in several clauses, with commas or without
several : fault (codes "int i, j;" ∷ codes "#pragma omp target parallel for private(i) private(j) map(tofrom: A)" ∷ codes "for (i = 0; i < 4; i++) for (j = 0; j < 4; j++) A[4 * i + j] = j;" ∷ []) ≡ None
unfolding index_len number_of hex_number_of number_piece sign_one sign_two sign_three changing_sign sign_at format_at piece_at comment_end_from is_include after tokens_from word_of is_omp expression line_from clauses_from worked in_blocks typed printed undefined all_read initialized in_full run enter breaks wrong sort_of advance place_code first_broken first_wrong kind_of holds is_atomic is_target depth_of collapse_from uses_of uses_from line_fault line_breaks line_wrong line_enter line_advance line_place line_first_broken line_first_wrong piece_on_line lexemes_from
several = refl

before_a_comma : fault (codes "int i, j;" ∷ codes "#pragma omp target parallel for private(i), private(j), map(tofrom: A)" ∷ codes "for (i = 0; i < 4; i++) for (j = 0; j < 4; j++) A[4 * i + j] = j;" ∷ []) ≡ None
unfolding index_len number_of hex_number_of number_piece sign_one sign_two sign_three changing_sign sign_at format_at piece_at comment_end_from is_include after tokens_from word_of is_omp expression line_from clauses_from worked in_blocks typed printed undefined all_read initialized in_full run enter breaks wrong sort_of advance place_code first_broken first_wrong kind_of holds is_atomic is_target depth_of collapse_from uses_of uses_from line_fault line_breaks line_wrong line_enter line_advance line_place line_first_broken line_first_wrong piece_on_line lexemes_from
before_a_comma = refl

behind_a_comma : fault (codes "int i, j;" ∷ codes "#pragma omp target parallel for map(tofrom: A), private(i), private(j)" ∷ codes "for (i = 0; i < 4; i++) for (j = 0; j < 4; j++) A[4 * i + j] = j;" ∷ []) ≡ None
unfolding index_len number_of hex_number_of number_piece sign_one sign_two sign_three changing_sign sign_at format_at piece_at comment_end_from is_include after tokens_from word_of is_omp expression line_from clauses_from worked in_blocks typed printed undefined all_read initialized in_full run enter breaks wrong sort_of advance place_code first_broken first_wrong kind_of holds is_atomic is_target depth_of collapse_from uses_of uses_from line_fault line_breaks line_wrong line_enter line_advance line_place line_first_broken line_first_wrong piece_on_line lexemes_from
behind_a_comma = refl

between_commas : fault (codes "int i, j;" ∷ codes "#pragma omp target parallel for map(tofrom: A), private(j), nowait" ∷ codes "for (i = 0; i < 4; i++) for (j = 0; j < 4; j++) A[4 * i + j] = j;" ∷ []) ≡ None
unfolding index_len number_of hex_number_of number_piece sign_one sign_two sign_three changing_sign sign_at format_at piece_at comment_end_from is_include after tokens_from word_of is_omp expression line_from clauses_from worked in_blocks typed printed undefined all_read initialized in_full run enter breaks wrong sort_of advance place_code first_broken first_wrong kind_of holds is_atomic is_target depth_of collapse_from uses_of uses_from line_fault line_breaks line_wrong line_enter line_advance line_place line_first_broken line_first_wrong piece_on_line lexemes_from
between_commas = refl

-- on the line of a construct inside a target
on_the_line_inside : fault (codes "int i, j;" ∷ codes "#pragma omp target map(tofrom: A)" ∷ codes "#pragma omp teams distribute parallel for private(j)" ∷ codes "for (i = 0; i < 4; i++) for (j = 0; j < 4; j++) A[4 * i + j] = j;" ∷ []) ≡ None
unfolding index_len number_of hex_number_of number_piece sign_one sign_two sign_three changing_sign sign_at format_at piece_at comment_end_from is_include after tokens_from word_of is_omp expression line_from clauses_from worked in_blocks typed printed undefined all_read initialized in_full run enter breaks wrong sort_of advance place_code first_broken first_wrong kind_of holds is_atomic is_target depth_of collapse_from uses_of uses_from line_fault line_breaks line_wrong line_enter line_advance line_place line_first_broken line_first_wrong piece_on_line lexemes_from
on_the_line_inside = refl

of_a_block : fault (codes "#pragma omp target private(t)" ∷ codes "{ uint64_t t = x; A[0] = t; }" ∷ []) ≡ None
unfolding index_len number_of hex_number_of number_piece sign_one sign_two sign_three changing_sign sign_at format_at piece_at comment_end_from is_include after tokens_from word_of is_omp expression line_from clauses_from worked in_blocks typed printed undefined all_read initialized in_full run enter breaks wrong sort_of advance place_code first_broken first_wrong kind_of holds is_atomic is_target depth_of collapse_from uses_of uses_from line_fault line_breaks line_wrong line_enter line_advance line_place line_first_broken line_first_wrong piece_on_line lexemes_from
of_a_block = refl

-- a name that the region does not declare stays
of_another_name : fault (codes "uint64_t n = 1;" ∷ codes "#pragma omp target private(n)" ∷ codes "{ A[0] = 1; }" ∷ []) ≡ at UnknownClause 3 20
unfolding index_len number_of hex_number_of number_piece sign_one sign_two sign_three changing_sign sign_at format_at piece_at comment_end_from is_include after tokens_from word_of is_omp expression line_from clauses_from worked in_blocks typed printed undefined all_read initialized in_full run enter breaks wrong sort_of advance place_code first_broken first_wrong kind_of holds is_atomic is_target depth_of collapse_from uses_of uses_from line_fault line_breaks line_wrong line_enter line_advance line_place line_first_broken line_first_wrong piece_on_line lexemes_from
of_another_name = refl

of_one_other_name : fault (codes "int i; uint64_t n;" ∷ codes "#pragma omp target parallel for private(i, n)" ∷ codes "for (i = 0; i < 4; i++) A[i] = i;" ∷ []) ≡ at UnknownClause 3 33
unfolding index_len number_of hex_number_of number_piece sign_one sign_two sign_three changing_sign sign_at format_at piece_at comment_end_from is_include after tokens_from word_of is_omp expression line_from clauses_from worked in_blocks typed printed undefined all_read initialized in_full run enter breaks wrong sort_of advance place_code first_broken first_wrong kind_of holds is_atomic is_target depth_of collapse_from uses_of uses_from line_fault line_breaks line_wrong line_enter line_advance line_place line_first_broken line_first_wrong piece_on_line lexemes_from
of_one_other_name = refl

declared_behind : fault (codes "#pragma omp target private(t)" ∷ codes "{ A[0] = x; }" ∷ codes "uint64_t t = 1;" ∷ []) ≡ at UnknownClause 2 20
unfolding index_len number_of hex_number_of number_piece sign_one sign_two sign_three changing_sign sign_at format_at piece_at comment_end_from is_include after tokens_from word_of is_omp expression line_from clauses_from worked in_blocks typed printed undefined all_read initialized in_full run enter breaks wrong sort_of advance place_code first_broken first_wrong kind_of holds is_atomic is_target depth_of collapse_from uses_of uses_from line_fault line_breaks line_wrong line_enter line_advance line_place line_first_broken line_first_wrong piece_on_line lexemes_from
declared_behind = refl

of_a_global : fault (codes "#pragma omp target private(x)" ∷ codes "{ A[0] = 1; }" ∷ []) ≡ at UnknownClause 2 20
unfolding index_len number_of hex_number_of number_piece sign_one sign_two sign_three changing_sign sign_at format_at piece_at comment_end_from is_include after tokens_from word_of is_omp expression line_from clauses_from worked in_blocks typed printed undefined all_read initialized in_full run enter breaks wrong sort_of advance place_code first_broken first_wrong kind_of holds is_atomic is_target depth_of collapse_from uses_of uses_from line_fault line_breaks line_wrong line_enter line_advance line_place line_first_broken line_first_wrong piece_on_line lexemes_from
of_a_global = refl

of_no_name : fault (codes "#pragma omp target private()" ∷ codes "{ A[0] = 1; }" ∷ []) ≡ at UnknownClause 2 20
unfolding index_len number_of hex_number_of number_piece sign_one sign_two sign_three changing_sign sign_at format_at piece_at comment_end_from is_include after tokens_from word_of is_omp expression line_from clauses_from worked in_blocks typed printed undefined all_read initialized in_full run enter breaks wrong sort_of advance place_code first_broken first_wrong kind_of holds is_atomic is_target depth_of collapse_from uses_of uses_from line_fault line_breaks line_wrong line_enter line_advance line_place line_first_broken line_first_wrong piece_on_line lexemes_from
of_no_name = refl

-- on other lines too
of_no_target : fault (codes "int i;" ∷ codes "#pragma omp target data map(tofrom: A) private(i)" ∷ codes "for (i = 0; i < 4; i++) A[i] = i;" ∷ []) ≡ at UnknownClause 3 40
unfolding index_len number_of hex_number_of number_piece sign_one sign_two sign_three changing_sign sign_at format_at piece_at comment_end_from is_include after tokens_from word_of is_omp expression line_from clauses_from worked in_blocks typed printed undefined all_read initialized in_full run enter breaks wrong sort_of advance place_code first_broken first_wrong kind_of holds is_atomic is_target depth_of collapse_from uses_of uses_from line_fault line_breaks line_wrong line_enter line_advance line_place line_first_broken line_first_wrong piece_on_line lexemes_from
of_no_target = refl

-- a scalar that each turn assigns before all else
assigned_first : fault (codes "uint64_t t;" ∷ codes "#pragma omp target teams distribute parallel for private(t)" ∷ codes "for (int i = 0; i < 16; i++) { t = A[i]; A[i] = t * t; }" ∷ []) ≡ None
unfolding index_len number_of hex_number_of number_piece sign_one sign_two sign_three changing_sign sign_at format_at piece_at comment_end_from is_include after tokens_from word_of is_omp expression line_from clauses_from worked in_blocks typed printed undefined all_read initialized in_full run enter breaks wrong sort_of advance place_code first_broken first_wrong kind_of holds is_atomic is_target depth_of collapse_from uses_of uses_from line_fault line_breaks line_wrong line_enter line_advance line_place line_first_broken line_first_wrong piece_on_line lexemes_from
assigned_first = refl

beside_a_loop : fault (codes "int i; uint64_t t;" ∷ codes "#pragma omp target teams distribute parallel for private(i, t)" ∷ codes "for (i = 0; i < 16; i++) { t = A[i]; A[i] = t * t; }" ∷ []) ≡ None
unfolding index_len number_of hex_number_of number_piece sign_one sign_two sign_three changing_sign sign_at format_at piece_at comment_end_from is_include after tokens_from word_of is_omp expression line_from clauses_from worked in_blocks typed printed undefined all_read initialized in_full run enter breaks wrong sort_of advance place_code first_broken first_wrong kind_of holds is_atomic is_target depth_of collapse_from uses_of uses_from line_fault line_breaks line_wrong line_enter line_advance line_place line_first_broken line_first_wrong piece_on_line lexemes_from
beside_a_loop = refl

in_an_inner_loop : fault (codes "uint64_t t;" ∷ codes "#pragma omp target teams distribute parallel for private(t)" ∷ codes "for (int i = 0; i < 4; i++) for (int j = 0; j < 4; j++) { t = A[4 * i + j]; A[4 * i + j] = t + t; }" ∷ []) ≡ None
unfolding index_len number_of hex_number_of number_piece sign_one sign_two sign_three changing_sign sign_at format_at piece_at comment_end_from is_include after tokens_from word_of is_omp expression line_from clauses_from worked in_blocks typed printed undefined all_read initialized in_full run enter breaks wrong sort_of advance place_code first_broken first_wrong kind_of holds is_atomic is_target depth_of collapse_from uses_of uses_from line_fault line_breaks line_wrong line_enter line_advance line_place line_first_broken line_first_wrong piece_on_line lexemes_from
in_an_inner_loop = refl

of_two_branches : fault (codes "uint64_t t;" ∷ codes "#pragma omp target teams distribute parallel for private(t)" ∷ codes "for (int i = 0; i < 16; i++) { if (A[i] < 2) { t = 1; A[i] = t; } else { t = 2; A[i] = t; } }" ∷ []) ≡ None
unfolding index_len number_of hex_number_of number_piece sign_one sign_two sign_three changing_sign sign_at format_at piece_at comment_end_from is_include after tokens_from word_of is_omp expression line_from clauses_from worked in_blocks typed printed undefined all_read initialized in_full run enter breaks wrong sort_of advance place_code first_broken first_wrong kind_of holds is_atomic is_target depth_of collapse_from uses_of uses_from line_fault line_breaks line_wrong line_enter line_advance line_place line_first_broken line_first_wrong piece_on_line lexemes_from
of_two_branches = refl

of_two_loops : fault (codes "uint64_t t;" ∷ codes "#pragma omp target teams distribute parallel for private(t)" ∷ codes "for (int i = 0; i < 16; i++) { t = A[i]; A[i] = t; }" ∷ codes "#pragma omp target teams distribute parallel for private(t)" ∷ codes "for (int i = 0; i < 16; i++) { t = A[i]; A[i] = t; }" ∷ []) ≡ None
unfolding index_len number_of hex_number_of number_piece sign_one sign_two sign_three changing_sign sign_at format_at piece_at comment_end_from is_include after tokens_from word_of is_omp expression line_from clauses_from worked in_blocks typed printed undefined all_read initialized in_full run enter breaks wrong sort_of advance place_code first_broken first_wrong kind_of holds is_atomic is_target depth_of collapse_from uses_of uses_from line_fault line_breaks line_wrong line_enter line_advance line_place line_first_broken line_first_wrong piece_on_line lexemes_from
of_two_loops = refl

-- on the host as well
on_the_host : fault (codes "uint64_t t;" ∷ codes "for (int i = 0; i < 16; i++) { t = A[i]; print(t); }" ∷ codes "#pragma omp target private(t)" ∷ codes "{ t = x; A[0] = t; }" ∷ []) ≡ None
unfolding index_len number_of hex_number_of number_piece sign_one sign_two sign_three changing_sign sign_at format_at piece_at comment_end_from is_include after tokens_from word_of is_omp expression line_from clauses_from worked in_blocks typed printed undefined all_read initialized in_full run enter breaks wrong sort_of advance place_code first_broken first_wrong kind_of holds is_atomic is_target depth_of collapse_from uses_of uses_from line_fault line_breaks line_wrong line_enter line_advance line_place line_first_broken line_first_wrong piece_on_line lexemes_from
on_the_host = refl

-- a target by itself has its own
without_a_clause : fault (codes "uint64_t t;" ∷ codes "#pragma omp target" ∷ codes "for (int i = 0; i < 16; i++) { t = A[i]; A[i] = t * t; }" ∷ []) ≡ None
unfolding index_len number_of hex_number_of number_piece sign_one sign_two sign_three changing_sign sign_at format_at piece_at comment_end_from is_include after tokens_from word_of is_omp expression line_from clauses_from worked in_blocks typed printed undefined all_read initialized in_full run enter breaks wrong sort_of advance place_code first_broken first_wrong kind_of holds is_atomic is_target depth_of collapse_from uses_of uses_from line_fault line_breaks line_wrong line_enter line_advance line_place line_first_broken line_first_wrong piece_on_line lexemes_from
without_a_clause = refl

-- turns that share it lack a clause
shared_by_turns : fault (codes "uint64_t t;" ∷ codes "#pragma omp target teams distribute parallel for" ∷ codes "for (int i = 0; i < 16; i++) { t = A[i]; A[i] = t * t; }" ∷ []) ≡ at UnknownClause 3 13
unfolding index_len number_of hex_number_of number_piece sign_one sign_two sign_three changing_sign sign_at format_at piece_at comment_end_from is_include after tokens_from word_of is_omp expression line_from clauses_from worked in_blocks typed printed undefined all_read initialized in_full run enter breaks wrong sort_of advance place_code first_broken first_wrong kind_of holds is_atomic is_target depth_of collapse_from uses_of uses_from line_fault line_breaks line_wrong line_enter line_advance line_place line_first_broken line_first_wrong piece_on_line lexemes_from
shared_by_turns = refl

with_another_clause : fault (codes "uint64_t s, t;" ∷ codes "#pragma omp target teams distribute parallel for private(s)" ∷ codes "for (int i = 0; i < 16; i++) { s = A[i]; t = s; A[i] = t; }" ∷ []) ≡ at UnknownClause 3 13
unfolding index_len number_of hex_number_of number_piece sign_one sign_two sign_three changing_sign sign_at format_at piece_at comment_end_from is_include after tokens_from word_of is_omp expression line_from clauses_from worked in_blocks typed printed undefined all_read initialized in_full run enter breaks wrong sort_of advance place_code first_broken first_wrong kind_of holds is_atomic is_target depth_of collapse_from uses_of uses_from line_fault line_breaks line_wrong line_enter line_advance line_place line_first_broken line_first_wrong piece_on_line lexemes_from
with_another_clause = refl

-- one that is declared in the region is not shared
declared_in_the_region : fault (codes "#pragma omp target teams distribute parallel for" ∷ codes "for (int i = 0; i < 16; i++) { uint64_t t; if (A[i] < 2) { t = 1; A[i] = t; } }" ∷ []) ≡ None
unfolding index_len number_of hex_number_of number_piece sign_one sign_two sign_three changing_sign sign_at format_at piece_at comment_end_from is_include after tokens_from word_of is_omp expression line_from clauses_from worked in_blocks typed printed undefined all_read initialized in_full run enter breaks wrong sort_of advance place_code first_broken first_wrong kind_of holds is_atomic is_target depth_of collapse_from uses_of uses_from line_fault line_breaks line_wrong line_enter line_advance line_place line_first_broken line_first_wrong piece_on_line lexemes_from
declared_in_the_region = refl

-- nor one that is assigned before the line
summed_up : fault (codes "uint64_t sum;" ∷ codes "for (int k = 0; k < 2; k++) { sum = 0;" ∷ codes "#pragma omp target teams distribute parallel for map(tofrom: sum) reduction(+: sum)" ∷ codes "for (int i = 0; i < 16; i++) { sum += A[i]; }" ∷ codes "print(sum); }" ∷ []) ≡ None
unfolding index_len number_of hex_number_of number_piece sign_one sign_two sign_three changing_sign sign_at format_at piece_at comment_end_from is_include after tokens_from word_of is_omp expression line_from clauses_from worked in_blocks typed printed undefined all_read initialized in_full run enter breaks wrong sort_of advance place_code first_broken first_wrong kind_of holds is_atomic is_target depth_of collapse_from uses_of uses_from line_fault line_breaks line_wrong line_enter line_advance line_place line_first_broken line_first_wrong piece_on_line lexemes_from
summed_up = refl

-- but its clause stays
assigned_before_the_line : fault (codes "uint64_t t;" ∷ codes "for (int k = 0; k < 2; k++) { t = 1;" ∷ codes "#pragma omp target teams distribute parallel for private(t)" ∷ codes "for (int i = 0; i < 16; i++) { A[i] = t; } }" ∷ []) ≡ at UnknownClause 4 50
unfolding index_len number_of hex_number_of number_piece sign_one sign_two sign_three changing_sign sign_at format_at piece_at comment_end_from is_include after tokens_from word_of is_omp expression line_from clauses_from worked in_blocks typed printed undefined all_read initialized in_full run enter breaks wrong sort_of advance place_code first_broken first_wrong kind_of holds is_atomic is_target depth_of collapse_from uses_of uses_from line_fault line_breaks line_wrong line_enter line_advance line_place line_first_broken line_first_wrong piece_on_line lexemes_from
assigned_before_the_line = refl

-- names that are not moved
read_behind : fault (codes "uint64_t t;" ∷ codes "#pragma omp target teams distribute parallel for private(t)" ∷ codes "for (int i = 0; i < 16; i++) { t = A[i]; A[i] = t; }" ∷ codes "print(t);" ∷ []) ≡ at UnknownClause 3 50
unfolding index_len number_of hex_number_of number_piece sign_one sign_two sign_three changing_sign sign_at format_at piece_at comment_end_from is_include after tokens_from word_of is_omp expression line_from clauses_from worked in_blocks typed printed undefined all_read initialized in_full run enter breaks wrong sort_of advance place_code first_broken first_wrong kind_of holds is_atomic is_target depth_of collapse_from uses_of uses_from line_fault line_breaks line_wrong line_enter line_advance line_place line_first_broken line_first_wrong piece_on_line lexemes_from
read_behind = refl

read_first : fault (codes "uint64_t t;" ∷ codes "#pragma omp target teams distribute parallel for private(t)" ∷ codes "for (int i = 0; i < 16; i++) { A[i] = t; t = A[i]; }" ∷ []) ≡ at UnknownClause 3 50
unfolding index_len number_of hex_number_of number_piece sign_one sign_two sign_three changing_sign sign_at format_at piece_at comment_end_from is_include after tokens_from word_of is_omp expression line_from clauses_from worked in_blocks typed printed undefined all_read initialized in_full run enter breaks wrong sort_of advance place_code first_broken first_wrong kind_of holds is_atomic is_target depth_of collapse_from uses_of uses_from line_fault line_breaks line_wrong line_enter line_advance line_place line_first_broken line_first_wrong piece_on_line lexemes_from
read_first = refl

read_in_its_value : fault (codes "uint64_t t;" ∷ codes "#pragma omp target private(t)" ∷ codes "{ t = t + 1; A[0] = t; }" ∷ []) ≡ at UnknownClause 3 20
unfolding index_len number_of hex_number_of number_piece sign_one sign_two sign_three changing_sign sign_at format_at piece_at comment_end_from is_include after tokens_from word_of is_omp expression line_from clauses_from worked in_blocks typed printed undefined all_read initialized in_full run enter breaks wrong sort_of advance place_code first_broken first_wrong kind_of holds is_atomic is_target depth_of collapse_from uses_of uses_from line_fault line_breaks line_wrong line_enter line_advance line_place line_first_broken line_first_wrong piece_on_line lexemes_from
read_in_its_value = refl

assigned_where_it_is_declared : fault (codes "uint64_t t;" ∷ codes "t = 1;" ∷ codes "#pragma omp target private(t)" ∷ codes "{ t = 2; A[0] = t; }" ∷ []) ≡ at UnknownClause 4 20
unfolding index_len number_of hex_number_of number_piece sign_one sign_two sign_three changing_sign sign_at format_at piece_at comment_end_from is_include after tokens_from word_of is_omp expression line_from clauses_from worked in_blocks typed printed undefined all_read initialized in_full run enter breaks wrong sort_of advance place_code first_broken first_wrong kind_of holds is_atomic is_target depth_of collapse_from uses_of uses_from line_fault line_breaks line_wrong line_enter line_advance line_place line_first_broken line_first_wrong piece_on_line lexemes_from
assigned_where_it_is_declared = refl

with_a_value : fault (codes "uint64_t t = 1;" ∷ codes "#pragma omp target private(t)" ∷ codes "{ t = 2; A[0] = t; }" ∷ []) ≡ at UnknownClause 3 20
unfolding index_len number_of hex_number_of number_piece sign_one sign_two sign_three changing_sign sign_at format_at piece_at comment_end_from is_include after tokens_from word_of is_omp expression line_from clauses_from worked in_blocks typed printed undefined all_read initialized in_full run enter breaks wrong sort_of advance place_code first_broken first_wrong kind_of holds is_atomic is_target depth_of collapse_from uses_of uses_from line_fault line_breaks line_wrong line_enter line_advance line_place line_first_broken line_first_wrong piece_on_line lexemes_from
with_a_value = refl

of_a_branch : fault (codes "uint64_t t;" ∷ codes "#pragma omp target private(t)" ∷ codes "{ if (x < 2) { t = 2; } A[0] = t; }" ∷ []) ≡ at UnknownClause 3 20
unfolding index_len number_of hex_number_of number_piece sign_one sign_two sign_three changing_sign sign_at format_at piece_at comment_end_from is_include after tokens_from word_of is_omp expression line_from clauses_from worked in_blocks typed printed undefined all_read initialized in_full run enter breaks wrong sort_of advance place_code first_broken first_wrong kind_of holds is_atomic is_target depth_of collapse_from uses_of uses_from line_fault line_breaks line_wrong line_enter line_advance line_place line_first_broken line_first_wrong piece_on_line lexemes_from
of_a_branch = refl

not_used : fault (codes "uint64_t t;" ∷ codes "#pragma omp target enter data map(alloc: t)" ∷ codes "#pragma omp target exit data map(release: t)" ∷ []) ≡ None
unfolding index_len number_of hex_number_of number_piece sign_one sign_two sign_three changing_sign sign_at format_at piece_at comment_end_from is_include after tokens_from word_of is_omp expression line_from clauses_from worked in_blocks typed printed undefined all_read initialized in_full run enter breaks wrong sort_of advance place_code first_broken first_wrong kind_of holds is_atomic is_target depth_of collapse_from uses_of uses_from line_fault line_breaks line_wrong line_enter line_advance line_place line_first_broken line_first_wrong piece_on_line lexemes_from
not_used = refl

-- where it is first assigned it is declared, and not before
mapped_before : fault (codes "uint64_t t;" ∷ codes "#pragma omp target map(tofrom: A, t)" ∷ codes "for (int i = 0; i < 16; i++) { t = A[i]; A[i] = t; }" ∷ []) ≡ at Undeclared 3 35
unfolding index_len number_of hex_number_of number_piece sign_one sign_two sign_three changing_sign sign_at format_at piece_at comment_end_from is_include after tokens_from word_of is_omp expression line_from clauses_from worked in_blocks typed printed undefined all_read initialized in_full run enter breaks wrong sort_of advance place_code first_broken first_wrong kind_of holds is_atomic is_target depth_of collapse_from uses_of uses_from line_fault line_breaks line_wrong line_enter line_advance line_place line_first_broken line_first_wrong piece_on_line lexemes_from
mapped_before = refl
