-- What is answered of sources with scalars in clauses, by computation.
use Rattle.std.proofs.Common.{◌≡◌, ℕ, List, [], ◌∷◌, ◌++◌, Option, Some, None, refl}
use Rattle.std.specs.Prelude.{codes}
use Rattle.base.specs.declared.fault.TextFault.{TextFault}
use Rattle.base.specs.declared.fault.ReadCode.{ReadCode as Code}
use Rattle.base.specs.declared.fault.ReadCode.TheVariants.{Undeclared, UnknownClause, OuterAssigned, ArrayTwice}
use Rattle.c_tokens.specs.Piece.{number_of, hex_number_of, number_piece, sign_one, sign_two, sign_three, changing_sign, sign_at, format_at, piece_at, comment_end_from, is_include}
use Rattle.c_tokens.specs.Text.{after, tokens_from}
use Rattle.c_grammar.specs.Lexeme.{word_of, piece_on_line, lexemes_from}
use Rattle.c_grammar.specs.Lines.{is_omp, kind_of, holds, is_atomic, is_target, depth_of, collapse_from, uses_of, uses_from, line_fault}
use Rattle.c_grammar.specs.LineRules.{line_breaks, line_wrong, line_enter}
use Rattle.c_grammar.specs.LineMachine.{line_advance, line_place, line_first_broken, line_first_wrong}
use Rattle.c_grammar.specs.Expressions.{expression}
use Rattle.c_grammar.specs.Functions.{index_len}
use Rattle.c_grammar.specs.LineForms.{line_from}
use Rattle.c_grammar.specs.Constants.{worked, undefined}
use Rattle.c_grammar.specs.Changes.{in_full}
use Rattle.c_grammar.specs.Allocations.{all_read}
use Rattle.c_grammar.specs.Clauses.{clauses_from}
use Rattle.c_grammar.specs.Initial.{initialized}
use Rattle.c_grammar.specs.Blocks.{typed, in_blocks}
use Rattle.c_grammar.specs.Prints.{printed}
use Rattle.c_grammar.specs.Machine.{run}
use Rattle.c_grammar.specs.Rules.{enter, breaks, wrong, sort_of}
use Rattle.c_grammar.specs.Program.{advance, place_code, first_broken, first_wrong}
use Rattle.c_grammar.specs.Source.{fault_in}

abbrev at : Code → ℕ → ℕ → Option TextFault
at code line column = Some (record { code = code; line = line; column = column })

abbrev lines : List (List ℕ) → List ℕ
lines [] = []
lines (l ∷ ls) = l ++ (10 ∷ lines ls)

-- the lines behind the declarations of an array and a scalar, and of a scalar of main
abbrev fault : List (List ℕ) → Option TextFault
fault ls = fault_in (lines (codes "uint64_t A[4], x; int main() {" ∷ codes "uint64_t s = 0;" ∷ (ls ++ codes "}" ∷ [])))

-- a scalar of main that a target maps is assigned in it
mapped : fault (codes "#pragma omp target map(tofrom: s)" ∷ codes "{ s = s + 1; }" ∷ codes "print(s);" ∷ []) ≡ None
unfolding index_len number_of hex_number_of number_piece sign_one sign_two sign_three changing_sign sign_at format_at piece_at comment_end_from is_include after tokens_from word_of is_omp expression line_from clauses_from worked in_blocks typed printed undefined all_read initialized in_full run enter breaks wrong sort_of advance place_code first_broken first_wrong kind_of holds is_atomic is_target depth_of collapse_from uses_of uses_from line_fault line_breaks line_wrong line_enter line_advance line_place line_first_broken line_first_wrong piece_on_line lexemes_from
mapped = refl

mapped_by_its_section : fault (codes "#pragma omp target map(tofrom: s[0:1])" ∷ codes "{ s = s + 1; }" ∷ codes "print(s);" ∷ []) ≡ None
unfolding index_len number_of hex_number_of number_piece sign_one sign_two sign_three changing_sign sign_at format_at piece_at comment_end_from is_include after tokens_from word_of is_omp expression line_from clauses_from worked in_blocks typed printed undefined all_read initialized in_full run enter breaks wrong sort_of advance place_code first_broken first_wrong kind_of holds is_atomic is_target depth_of collapse_from uses_of uses_from line_fault line_breaks line_wrong line_enter line_advance line_place line_first_broken line_first_wrong piece_on_line lexemes_from
mapped_by_its_section = refl

-- one that stands in no clause is only read in a target
captured : fault (codes "#pragma omp target" ∷ codes "{ A[0] = s; }" ∷ []) ≡ None
unfolding index_len number_of hex_number_of number_piece sign_one sign_two sign_three changing_sign sign_at format_at piece_at comment_end_from is_include after tokens_from word_of is_omp expression line_from clauses_from worked in_blocks typed printed undefined all_read initialized in_full run enter breaks wrong sort_of advance place_code first_broken first_wrong kind_of holds is_atomic is_target depth_of collapse_from uses_of uses_from line_fault line_breaks line_wrong line_enter line_advance line_place line_first_broken line_first_wrong piece_on_line lexemes_from
captured = refl

captured_and_assigned : fault (codes "#pragma omp target" ∷ codes "{ s = 1; }" ∷ []) ≡ at OuterAssigned 4 3
unfolding index_len number_of hex_number_of number_piece sign_one sign_two sign_three changing_sign sign_at format_at piece_at comment_end_from is_include after tokens_from word_of is_omp expression line_from clauses_from worked in_blocks typed printed undefined all_read initialized in_full run enter breaks wrong sort_of advance place_code first_broken first_wrong kind_of holds is_atomic is_target depth_of collapse_from uses_of uses_from line_fault line_breaks line_wrong line_enter line_advance line_place line_first_broken line_first_wrong piece_on_line lexemes_from
captured_and_assigned = refl

-- a target that does not name a boxed scalar maps it to the device
mapped_elsewhere : fault (codes "#pragma omp target map(tofrom: s)" ∷ codes "{ s = 1; }" ∷ codes "#pragma omp target" ∷ codes "{ A[0] = s; }" ∷ []) ≡ None
unfolding index_len number_of hex_number_of number_piece sign_one sign_two sign_three changing_sign sign_at format_at piece_at comment_end_from is_include after tokens_from word_of is_omp expression line_from clauses_from worked in_blocks typed printed undefined all_read initialized in_full run enter breaks wrong sort_of advance place_code first_broken first_wrong kind_of holds is_atomic is_target depth_of collapse_from uses_of uses_from line_fault line_breaks line_wrong line_enter line_advance line_place line_first_broken line_first_wrong piece_on_line lexemes_from
mapped_elsewhere = refl

-- but where the device may have it already, which C does not look at
moved : fault (codes "#pragma omp target data map(to: s)" ∷ codes "{ s = read();" ∷ codes "#pragma omp target update to(s)" ∷ codes "#pragma omp target" ∷ codes "{ A[0] = s; } }" ∷ []) ≡ at UnknownClause 6 13
unfolding index_len number_of hex_number_of number_piece sign_one sign_two sign_three changing_sign sign_at format_at piece_at comment_end_from is_include after tokens_from word_of is_omp expression line_from clauses_from worked in_blocks typed printed undefined all_read initialized in_full run enter breaks wrong sort_of advance place_code first_broken first_wrong kind_of holds is_atomic is_target depth_of collapse_from uses_of uses_from line_fault line_breaks line_wrong line_enter line_advance line_place line_first_broken line_first_wrong piece_on_line lexemes_from
moved = refl

copied : fault (codes "#pragma omp target data map(tofrom: s)" ∷ codes "{" ∷ codes "#pragma omp target firstprivate(s)" ∷ codes "{ A[0] = s; } }" ∷ []) ≡ at UnknownClause 5 13
unfolding index_len number_of hex_number_of number_piece sign_one sign_two sign_three changing_sign sign_at format_at piece_at comment_end_from is_include after tokens_from word_of is_omp expression line_from clauses_from worked in_blocks typed printed undefined all_read initialized in_full run enter breaks wrong sort_of advance place_code first_broken first_wrong kind_of holds is_atomic is_target depth_of collapse_from uses_of uses_from line_fault line_breaks line_wrong line_enter line_advance line_place line_first_broken line_first_wrong piece_on_line lexemes_from
copied = refl

ordered_and_not_mapped : fault (codes "#pragma omp target map(from: s) nowait depend(out: s)" ∷ codes "{ s = 1; }" ∷ codes "#pragma omp target depend(in: s)" ∷ codes "{ A[0] = s; }" ∷ []) ≡ at UnknownClause 5 13
unfolding index_len number_of hex_number_of number_piece sign_one sign_two sign_three changing_sign sign_at format_at piece_at comment_end_from is_include after tokens_from word_of is_omp expression line_from clauses_from worked in_blocks typed printed undefined all_read initialized in_full run enter breaks wrong sort_of advance place_code first_broken first_wrong kind_of holds is_atomic is_target depth_of collapse_from uses_of uses_from line_fault line_breaks line_wrong line_enter line_advance line_place line_first_broken line_first_wrong piece_on_line lexemes_from
ordered_and_not_mapped = refl

ordered : fault (codes "#pragma omp target map(from: s) nowait depend(out: s)" ∷ codes "{ s = A[1]; }" ∷ codes "#pragma omp taskwait" ∷ []) ≡ None
unfolding index_len number_of hex_number_of number_piece sign_one sign_two sign_three changing_sign sign_at format_at piece_at comment_end_from is_include after tokens_from word_of is_omp expression line_from clauses_from worked in_blocks typed printed undefined all_read initialized in_full run enter breaks wrong sort_of advance place_code first_broken first_wrong kind_of holds is_atomic is_target depth_of collapse_from uses_of uses_from line_fault line_breaks line_wrong line_enter line_advance line_place line_first_broken line_first_wrong piece_on_line lexemes_from
ordered = refl

reduction : fault (codes "#pragma omp target teams distribute parallel for reduction(+: s)" ∷ codes "for (uint64_t i = 0; i < 4; i++) s += A[i];" ∷ codes "print(s);" ∷ []) ≡ None
unfolding index_len number_of hex_number_of number_piece sign_one sign_two sign_three changing_sign sign_at format_at piece_at comment_end_from is_include after tokens_from word_of is_omp expression line_from clauses_from worked in_blocks typed printed undefined all_read initialized in_full run enter breaks wrong sort_of advance place_code first_broken first_wrong kind_of holds is_atomic is_target depth_of collapse_from uses_of uses_from line_fault line_breaks line_wrong line_enter line_advance line_place line_first_broken line_first_wrong piece_on_line lexemes_from
reduction = refl

reduction_that_is_read : fault (codes "#pragma omp target teams distribute parallel for reduction(+: s)" ∷ codes "for (uint64_t i = 0; i < 4; i++) { s += A[i]; A[i] = s; }" ∷ []) ≡ at UnknownClause 3 50
unfolding index_len number_of hex_number_of number_piece sign_one sign_two sign_three changing_sign sign_at format_at piece_at comment_end_from is_include after tokens_from word_of is_omp expression line_from clauses_from worked in_blocks typed printed undefined all_read initialized in_full run enter breaks wrong sort_of advance place_code first_broken first_wrong kind_of holds is_atomic is_target depth_of collapse_from uses_of uses_from line_fault line_breaks line_wrong line_enter line_advance line_place line_first_broken line_first_wrong piece_on_line lexemes_from
reduction_that_is_read = refl

atomic_update : fault (codes "#pragma omp target map(tofrom: s)" ∷ codes "{" ∷ codes "#pragma omp atomic update" ∷ codes "s += 1; }" ∷ []) ≡ None
unfolding index_len number_of hex_number_of number_piece sign_one sign_two sign_three changing_sign sign_at format_at piece_at comment_end_from is_include after tokens_from word_of is_omp expression line_from clauses_from worked in_blocks typed printed undefined all_read initialized in_full run enter breaks wrong sort_of advance place_code first_broken first_wrong kind_of holds is_atomic is_target depth_of collapse_from uses_of uses_from line_fault line_breaks line_wrong line_enter line_advance line_place line_first_broken line_first_wrong piece_on_line lexemes_from
atomic_update = refl

atomic_in_a_loop : fault (codes "#pragma omp target teams distribute parallel for map(tofrom: s)" ∷ codes "for (uint64_t i = 0; i < 4; i++) {" ∷ codes "#pragma omp atomic" ∷ codes "s++; }" ∷ []) ≡ None
unfolding index_len number_of hex_number_of number_piece sign_one sign_two sign_three changing_sign sign_at format_at piece_at comment_end_from is_include after tokens_from word_of is_omp expression line_from clauses_from worked in_blocks typed printed undefined all_read initialized in_full run enter breaks wrong sort_of advance place_code first_broken first_wrong kind_of holds is_atomic is_target depth_of collapse_from uses_of uses_from line_fault line_breaks line_wrong line_enter line_advance line_place line_first_broken line_first_wrong piece_on_line lexemes_from
atomic_in_a_loop = refl

-- no other name is boxed: of a loop, of a scalar before main, of none
of_a_loop : fault (codes "for (uint64_t i = 0; i < 4; i++) {" ∷ codes "#pragma omp target map(to: i)" ∷ codes "{ A[i] = 1; } }" ∷ []) ≡ at Undeclared 4 28
unfolding index_len number_of hex_number_of number_piece sign_one sign_two sign_three changing_sign sign_at format_at piece_at comment_end_from is_include after tokens_from word_of is_omp expression line_from clauses_from worked in_blocks typed printed undefined all_read initialized in_full run enter breaks wrong sort_of advance place_code first_broken first_wrong kind_of holds is_atomic is_target depth_of collapse_from uses_of uses_from line_fault line_breaks line_wrong line_enter line_advance line_place line_first_broken line_first_wrong piece_on_line lexemes_from
of_a_loop = refl

of_the_globals : fault (codes "#pragma omp target map(to: x)" ∷ codes "{ A[0] = x; }" ∷ []) ≡ at Undeclared 3 28
unfolding index_len number_of hex_number_of number_piece sign_one sign_two sign_three changing_sign sign_at format_at piece_at comment_end_from is_include after tokens_from word_of is_omp expression line_from clauses_from worked in_blocks typed printed undefined all_read initialized in_full run enter breaks wrong sort_of advance place_code first_broken first_wrong kind_of holds is_atomic is_target depth_of collapse_from uses_of uses_from line_fault line_breaks line_wrong line_enter line_advance line_place line_first_broken line_first_wrong piece_on_line lexemes_from
of_the_globals = refl

of_nothing : fault (codes "#pragma omp target map(to: t)" ∷ codes "{ A[0] = 1; }" ∷ []) ≡ at Undeclared 3 28
unfolding index_len number_of hex_number_of number_piece sign_one sign_two sign_three changing_sign sign_at format_at piece_at comment_end_from is_include after tokens_from word_of is_omp expression line_from clauses_from worked in_blocks typed printed undefined all_read initialized in_full run enter breaks wrong sort_of advance place_code first_broken first_wrong kind_of holds is_atomic is_target depth_of collapse_from uses_of uses_from line_fault line_breaks line_wrong line_enter line_advance line_place line_first_broken line_first_wrong piece_on_line lexemes_from
of_nothing = refl

before_its_declaration : fault (codes "#pragma omp target map(to: t)" ∷ codes "{ A[0] = 1; }" ∷ codes "uint64_t t = 1;" ∷ []) ≡ at Undeclared 3 28
unfolding index_len number_of hex_number_of number_piece sign_one sign_two sign_three changing_sign sign_at format_at piece_at comment_end_from is_include after tokens_from word_of is_omp expression line_from clauses_from worked in_blocks typed printed undefined all_read initialized in_full run enter breaks wrong sort_of advance place_code first_broken first_wrong kind_of holds is_atomic is_target depth_of collapse_from uses_of uses_from line_fault line_breaks line_wrong line_enter line_advance line_place line_first_broken line_first_wrong piece_on_line lexemes_from
before_its_declaration = refl

twice : fault (codes "#pragma omp target map(to: s) map(from: s)" ∷ codes "{ A[0] = 1; }" ∷ []) ≡ at ArrayTwice 3 41
unfolding index_len number_of hex_number_of number_piece sign_one sign_two sign_three changing_sign sign_at format_at piece_at comment_end_from is_include after tokens_from word_of is_omp expression line_from clauses_from worked in_blocks typed printed undefined all_read initialized in_full run enter breaks wrong sort_of advance place_code first_broken first_wrong kind_of holds is_atomic is_target depth_of collapse_from uses_of uses_from line_fault line_breaks line_wrong line_enter line_advance line_place line_first_broken line_first_wrong piece_on_line lexemes_from
twice = refl
