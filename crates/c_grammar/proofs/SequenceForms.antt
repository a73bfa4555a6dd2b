-- What targets with several constructs are written out as, and what is answered of others, by computation.
use Rattle.std.proofs.Common.{◌≡◌, ℕ, List, [], ◌∷◌, ◌++◌, map, Option, Some, None, refl}
use Rattle.std.specs.Prelude.{codes}
use Rattle.base.specs.declared.fault.TextFault.{TextFault}
use Rattle.base.specs.declared.fault.ReadCode.{ReadCode as Code}
use Rattle.base.specs.declared.fault.ReadCode.TheVariants.{DirectiveInTarget, UnknownClause}
use Rattle.c_tokens.specs.Piece.{number_of, hex_number_of, number_piece, sign_one, sign_two, sign_three, changing_sign, sign_at, format_at, piece_at, comment_end_from, is_include}
use Rattle.c_tokens.specs.Text.{after, tokens_from}
use Rattle.c_grammar.specs.Lexeme.{word_of, piece_on_line, lexemes_from}
use Rattle.c_grammar.specs.Lines.{is_omp, kind_of, holds, is_atomic, is_target, depth_of, collapse_from, uses_of, uses_from, line_fault}
use Rattle.c_grammar.specs.LineRules.{line_breaks, line_wrong, line_enter}
use Rattle.c_grammar.specs.LineMachine.{line_advance, line_place, line_first_broken, line_first_wrong}
use Rattle.c_grammar.specs.Expressions.{expression}
use Rattle.c_grammar.specs.Functions.{called, defined, arguments, index_len}
use Rattle.c_grammar.specs.FunctionHeads.{parameters}
use Rattle.c_grammar.specs.LineForms.{line_from}
use Rattle.c_grammar.specs.Constants.{worked, undefined}
use Rattle.c_grammar.specs.Changes.{in_full}
use Rattle.c_grammar.specs.Allocations.{all_read}
use Rattle.c_grammar.specs.Clauses.{clauses_from}
use Rattle.c_grammar.specs.Initial.{initialized}
use Rattle.c_grammar.specs.Blocks.{typed, in_blocks}
use Rattle.c_grammar.specs.Prints.{printed}
use Rattle.c_grammar.specs.Machine.{run}
use Rattle.c_grammar.specs.Rules.{enter, breaks, wrong, sort_of}
use Rattle.c_grammar.specs.Program.{advance, place_code, first_broken, first_wrong}
use Rattle.c_grammar.specs.Terminal.{Terminal}
use Rattle.c_grammar.specs.Source.{fault_in, items_of}

abbrev at : Code → ℕ → ℕ → Option TextFault
at code line column = Some (record { code = code; line = line; column = column })

abbrev lines : List (List ℕ) → List ℕ
lines [] = []
lines (l ∷ ls) = l ++ (10 ∷ lines ls)

-- the lines of main, behind the declarations of an array and two scalars
abbrev source : List (List ℕ) → List ℕ
source ls = lines (codes "uint64_t A[16], x, y; int main() {" ∷ (ls ++ codes "}" ∷ []))

abbrev fault : List (List ℕ) → Option TextFault
fault ls = fault_in (source ls)

abbrev tokens : List (List ℕ) → List Terminal
tokens ls = map (λ i. i.terminal) (items_of (source ls))

one_after_the_other : tokens (codes "#pragma omp target map(tofrom: A) device(1)" ∷ codes "{" ∷ codes "#pragma omp parallel for" ∷ codes "for (int i = 0; i < 8; i++) A[i] = i;" ∷ codes "{ A[0] = A[7]; }" ∷ codes "#pragma omp simd" ∷ codes "for (int i = 0; i < 7; i++) A[i] += A[7];" ∷ codes "}" ∷ codes "x = 1;" ∷ []) ≡ tokens (codes "#pragma omp target data map(tofrom: A) device(1)" ∷ codes "{" ∷ codes "#pragma omp target parallel for map(tofrom: A) device(1)" ∷ codes "for (int i = 0; i < 8; i++) A[i] = i;" ∷ codes "#pragma omp target map(tofrom: A) device(1)" ∷ codes "{ A[0] = A[7]; }" ∷ codes "#pragma omp target simd map(tofrom: A) device(1)" ∷ codes "for (int i = 0; i < 7; i++) A[i] += A[7];" ∷ codes "}" ∷ codes "x = 1;" ∷ [])
unfolding called defined parameters arguments index_len number_of hex_number_of number_piece sign_one sign_two sign_three changing_sign sign_at format_at piece_at comment_end_from is_include after tokens_from word_of is_omp expression line_from clauses_from worked in_blocks typed printed undefined all_read initialized in_full run enter breaks wrong sort_of advance place_code first_broken first_wrong kind_of holds is_atomic is_target depth_of collapse_from uses_of uses_from line_fault line_breaks line_wrong line_enter line_advance line_place line_first_broken line_first_wrong piece_on_line lexemes_from
one_after_the_other = refl

in_a_loop : tokens (codes "#pragma omp target map(tofrom: A)" ∷ codes "for (int t = 0; t < 3; t++) {" ∷ codes "#pragma omp parallel for" ∷ codes "for (int i = 0; i < 8; i++) A[i] = i;" ∷ codes "{" ∷ codes "#pragma omp simd" ∷ codes "for (int i = 0; i < 7; i++) A[i] += A[7];" ∷ codes "}" ∷ codes "}" ∷ []) ≡ tokens (codes "#pragma omp target data map(tofrom: A)" ∷ codes "for (int t = 0; t < 3; t++) {" ∷ codes "#pragma omp target parallel for map(tofrom: A)" ∷ codes "for (int i = 0; i < 8; i++) A[i] = i;" ∷ codes "{" ∷ codes "#pragma omp target simd map(tofrom: A)" ∷ codes "for (int i = 0; i < 7; i++) A[i] += A[7];" ∷ codes "}" ∷ codes "}" ∷ [])
unfolding called defined parameters arguments index_len number_of hex_number_of number_piece sign_one sign_two sign_three changing_sign sign_at format_at piece_at comment_end_from is_include after tokens_from word_of is_omp expression line_from clauses_from worked in_blocks typed printed undefined all_read initialized in_full run enter breaks wrong sort_of advance place_code first_broken first_wrong kind_of holds is_atomic is_target depth_of collapse_from uses_of uses_from line_fault line_breaks line_wrong line_enter line_advance line_place line_first_broken line_first_wrong piece_on_line lexemes_from
in_a_loop = refl

with_nothing_mapped : tokens (codes "#pragma omp target" ∷ codes "{" ∷ codes "for (int i = 0; i < 8; i++) if (i) A[i] = i; else A[i] = 1;" ∷ codes "#pragma omp parallel for" ∷ codes "for (int i = 0; i < 8; i++) A[i] = i;" ∷ codes "}" ∷ []) ≡ tokens (codes "{" ∷ codes "#pragma omp target" ∷ codes "for (int i = 0; i < 8; i++) if (i) A[i] = i; else A[i] = 1;" ∷ codes "#pragma omp target parallel for" ∷ codes "for (int i = 0; i < 8; i++) A[i] = i;" ∷ codes "}" ∷ [])
unfolding called defined parameters arguments index_len number_of hex_number_of number_piece sign_one sign_two sign_three changing_sign sign_at format_at piece_at comment_end_from is_include after tokens_from word_of is_omp expression line_from clauses_from worked in_blocks typed printed undefined all_read initialized in_full run enter breaks wrong sort_of advance place_code first_broken first_wrong kind_of holds is_atomic is_target depth_of collapse_from uses_of uses_from line_fault line_breaks line_wrong line_enter line_advance line_place line_first_broken line_first_wrong piece_on_line lexemes_from
with_nothing_mapped = refl

alone_as_before : tokens (codes "#pragma omp target map(tofrom: A)" ∷ codes "{" ∷ codes "#pragma omp parallel for" ∷ codes "for (int i = 0; i < 8; i++) A[i] = i;" ∷ codes "}" ∷ []) ≡ tokens (codes "{" ∷ codes "#pragma omp target parallel for map(tofrom: A)" ∷ codes "for (int i = 0; i < 8; i++) A[i] = i;" ∷ codes "}" ∷ [])
unfolding called defined parameters arguments index_len number_of hex_number_of number_piece sign_one sign_two sign_three changing_sign sign_at format_at piece_at comment_end_from is_include after tokens_from word_of is_omp expression line_from clauses_from worked in_blocks typed printed undefined all_read initialized in_full run enter breaks wrong sort_of advance place_code first_broken first_wrong kind_of holds is_atomic is_target depth_of collapse_from uses_of uses_from line_fault line_breaks line_wrong line_enter line_advance line_place line_first_broken line_first_wrong piece_on_line lexemes_from
alone_as_before = refl

deferred : fault (codes "#pragma omp target nowait" ∷ codes "{" ∷ codes "#pragma omp parallel for" ∷ codes "for (int i = 0; i < 8; i++) A[i] = i;" ∷ codes "#pragma omp parallel for" ∷ codes "for (int i = 0; i < 7; i++) A[i] += A[7];" ∷ codes "}" ∷ []) ≡ at DirectiveInTarget 4 1
unfolding called defined parameters arguments index_len number_of hex_number_of number_piece sign_one sign_two sign_three changing_sign sign_at format_at piece_at comment_end_from is_include after tokens_from word_of is_omp expression line_from clauses_from worked in_blocks typed printed undefined all_read initialized in_full run enter breaks wrong sort_of advance place_code first_broken first_wrong kind_of holds is_atomic is_target depth_of collapse_from uses_of uses_from line_fault line_breaks line_wrong line_enter line_advance line_place line_first_broken line_first_wrong piece_on_line lexemes_from
deferred = refl

copied_always : fault (codes "#pragma omp target map(always, to: A)" ∷ codes "{" ∷ codes "#pragma omp parallel for" ∷ codes "for (int i = 0; i < 8; i++) A[i] = i;" ∷ codes "#pragma omp parallel for" ∷ codes "for (int i = 0; i < 7; i++) A[i] += A[7];" ∷ codes "}" ∷ []) ≡ at DirectiveInTarget 4 1
unfolding called defined parameters arguments index_len number_of hex_number_of number_piece sign_one sign_two sign_three changing_sign sign_at format_at piece_at comment_end_from is_include after tokens_from word_of is_omp expression line_from clauses_from worked in_blocks typed printed undefined all_read initialized in_full run enter breaks wrong sort_of advance place_code first_broken first_wrong kind_of holds is_atomic is_target depth_of collapse_from uses_of uses_from line_fault line_breaks line_wrong line_enter line_advance line_place line_first_broken line_first_wrong piece_on_line lexemes_from
copied_always = refl

by_teams : fault (codes "#pragma omp target" ∷ codes "{" ∷ codes "#pragma omp teams distribute parallel for" ∷ codes "for (int i = 0; i < 8; i++) A[i] = i;" ∷ codes "#pragma omp teams distribute parallel for" ∷ codes "for (int i = 0; i < 7; i++) A[i] += A[7];" ∷ codes "}" ∷ []) ≡ at DirectiveInTarget 4 1
unfolding called defined parameters arguments index_len number_of hex_number_of number_piece sign_one sign_two sign_three changing_sign sign_at format_at piece_at comment_end_from is_include after tokens_from word_of is_omp expression line_from clauses_from worked in_blocks typed printed undefined all_read initialized in_full run enter breaks wrong sort_of advance place_code first_broken first_wrong kind_of holds is_atomic is_target depth_of collapse_from uses_of uses_from line_fault line_breaks line_wrong line_enter line_advance line_place line_first_broken line_first_wrong piece_on_line lexemes_from
by_teams = refl

with_a_statement : fault (codes "#pragma omp target" ∷ codes "{" ∷ codes "#pragma omp parallel for" ∷ codes "for (int i = 0; i < 8; i++) A[i] = i;" ∷ codes "A[0] = 1;" ∷ codes "}" ∷ []) ≡ at DirectiveInTarget 4 1
unfolding called defined parameters arguments index_len number_of hex_number_of number_piece sign_one sign_two sign_three changing_sign sign_at format_at piece_at comment_end_from is_include after tokens_from word_of is_omp expression line_from clauses_from worked in_blocks typed printed undefined all_read initialized in_full run enter breaks wrong sort_of advance place_code first_broken first_wrong kind_of holds is_atomic is_target depth_of collapse_from uses_of uses_from line_fault line_breaks line_wrong line_enter line_advance line_place line_first_broken line_first_wrong piece_on_line lexemes_from
with_a_statement = refl

with_a_declaration : fault (codes "#pragma omp target" ∷ codes "{" ∷ codes "uint64_t z = 1;" ∷ codes "#pragma omp parallel for" ∷ codes "for (int i = 0; i < 8; i++) A[i] = i;" ∷ codes "}" ∷ []) ≡ at DirectiveInTarget 5 1
unfolding called defined parameters arguments index_len number_of hex_number_of number_piece sign_one sign_two sign_three changing_sign sign_at format_at piece_at comment_end_from is_include after tokens_from word_of is_omp expression line_from clauses_from worked in_blocks typed printed undefined all_read initialized in_full run enter breaks wrong sort_of advance place_code first_broken first_wrong kind_of holds is_atomic is_target depth_of collapse_from uses_of uses_from line_fault line_breaks line_wrong line_enter line_advance line_place line_first_broken line_first_wrong piece_on_line lexemes_from
with_a_declaration = refl

-- turns share the name of an inner loop that is declared before the line
inner_loop : fault (codes "int i, j;" ∷ codes "#pragma omp target map(tofrom: A)" ∷ codes "{" ∷ codes "#pragma omp parallel for" ∷ codes "for (i = 0; i < 4; i++) for (j = 0; j < 4; j++) A[4 * i + j] = j;" ∷ codes "{ A[0] = 1; }" ∷ codes "}" ∷ []) ≡ at UnknownClause 3 13
unfolding called defined parameters arguments index_len number_of hex_number_of number_piece sign_one sign_two sign_three changing_sign sign_at format_at piece_at comment_end_from is_include after tokens_from word_of is_omp expression line_from clauses_from worked in_blocks typed printed undefined all_read initialized in_full run enter breaks wrong sort_of advance place_code first_broken first_wrong kind_of holds is_atomic is_target depth_of collapse_from uses_of uses_from line_fault line_breaks line_wrong line_enter line_advance line_place line_first_broken line_first_wrong piece_on_line lexemes_from
inner_loop = refl
