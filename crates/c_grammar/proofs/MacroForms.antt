-- What macros with parameters stand for, by computation.
use Rattle.std.proofs.Common.{◌≡◌, ℕ, List, [], ◌∷◌, ◌++◌, map, Option, Some, None, refl}
use Rattle.std.specs.Prelude.{codes}
use Rattle.base.specs.declared.fault.TextFault.{TextFault}
use Rattle.base.specs.declared.fault.ReadCode.{ReadCode as Code}
use Rattle.base.specs.declared.fault.ReadCode.TheVariants.{UnknownDirective}
use Rattle.c_tokens.specs.Piece.{number_of, hex_number_of, number_piece, sign_one, sign_two, sign_three, changing_sign, sign_at, format_at, piece_at, comment_end_from, is_include}
use Rattle.c_tokens.specs.Text.{after, tokens_from, tokens_of}
use Rattle.c_grammar.specs.Lexeme.{word_of, piece_on_line, lexemes_from}
use Rattle.c_grammar.specs.Terminal.{Terminal}
use Rattle.c_grammar.specs.Texts.{Item}
use Rattle.c_grammar.specs.Lines.{is_omp, kind_of, holds, is_atomic, is_target, depth_of, collapse_from, uses_of, uses_from, line_fault}
use Rattle.c_grammar.specs.LineRules.{line_breaks, line_wrong, line_enter}
use Rattle.c_grammar.specs.LineMachine.{line_advance, line_place, line_first_broken, line_first_wrong}
use Rattle.c_grammar.specs.Expressions.{expression}
use Rattle.c_grammar.specs.Functions.{index_len}
use Rattle.c_grammar.specs.LineForms.{line_from}
use Rattle.c_grammar.specs.Constants.{worked, undefined}
use Rattle.c_grammar.specs.Changes.{in_full}
use Rattle.c_grammar.specs.Allocations.{all_read}
use Rattle.c_grammar.specs.Clauses.{clauses_from}
use Rattle.c_grammar.specs.Initial.{initialized}
use Rattle.c_grammar.specs.Blocks.{typed, in_blocks}
use Rattle.c_grammar.specs.Macros.{replaced}
use Rattle.c_grammar.specs.Prints.{printed}
use Rattle.c_grammar.specs.Machine.{run}
use Rattle.c_grammar.specs.Rules.{enter, breaks, wrong, sort_of}
use Rattle.c_grammar.specs.Program.{advance, place_code, first_broken, first_wrong}
use Rattle.c_grammar.specs.Source.{fault_in, item_of}

abbrev at : Code → ℕ → ℕ → Option TextFault
at code line column = Some (record { code = code; line = line; column = column })

abbrev lines : List (List ℕ) → List ℕ
lines [] = []
lines (l ∷ ls) = l ++ (10 ∷ lines ls)

-- the tokens of a text as they stand, and what is behind the last line, with what macros stand for
abbrev own : List (List ℕ) → List (Item Terminal)
own ls = map (item_of (lines ls)) (tokens_of (lines ls))

abbrev terminals : List (Item Terminal) → List Terminal
terminals is = map (λ i. i.terminal) is

abbrev raw : List ℕ → List Terminal
raw text = terminals (own (text ∷ []))

abbrev tokens : List (List ℕ) → List Terminal
tokens ls = terminals (replaced (own ls))

index : fault_in (lines (codes "#define N 8" ∷ codes "#define IDX(i, j) ((i) * N + (j))" ∷ codes "uint64_t A[N * N]; int main() { for (uint64_t i = 0; i < N; i++) A[IDX(i, 7)] = IDX(1, i + 1); }" ∷ [])) ≡ None
unfolding index_len number_of hex_number_of number_piece sign_one sign_two sign_three changing_sign sign_at format_at piece_at comment_end_from is_include after tokens_from word_of is_omp expression line_from clauses_from worked in_blocks typed printed undefined all_read initialized in_full run enter breaks wrong sort_of advance place_code first_broken first_wrong kind_of holds is_atomic is_target depth_of collapse_from uses_of uses_from line_fault line_breaks line_wrong line_enter line_advance line_place line_first_broken line_first_wrong piece_on_line lexemes_from
index = refl

-- the arguments as they stand
index_tokens : tokens (codes "#define IDX(i, j) ((i) * N + (j))" ∷ codes "A[IDX(i + 1, B[2])] = 3;" ∷ []) ≡ raw (codes "A[((i + 1) * N + (B[2]))] = 3;")
unfolding number_of hex_number_of number_piece sign_one sign_two sign_three changing_sign sign_at format_at piece_at comment_end_from is_include after tokens_from word_of is_omp piece_on_line lexemes_from
index_tokens = refl

nested_calls : tokens (codes "#define MAX(a, b) (a | b)" ∷ codes "x = MAX(MAX(1, y), MAX(f(2, 3), (4, 5)));" ∷ []) ≡ raw (codes "x = ((1 | y) | (f(2, 3) | (4, 5)));")
unfolding number_of hex_number_of number_piece sign_one sign_two sign_three changing_sign sign_at format_at piece_at comment_end_from is_include after tokens_from word_of is_omp piece_on_line lexemes_from
nested_calls = refl

by_an_earlier_one : tokens (codes "#define SQUARE(x) ((x) * (x))" ∷ codes "#define SUM(x, y) (SQUARE(x) + SQUARE((y) - 1)) // of squares" ∷ codes "z = SUM(2, SQUARE(a));" ∷ []) ≡ raw (codes "z = (((2) * (2)) + (((((a) * (a))) - 1) * ((((a) * (a))) - 1)));")
unfolding number_of hex_number_of number_piece sign_one sign_two sign_three changing_sign sign_at format_at piece_at comment_end_from is_include after tokens_from word_of is_omp piece_on_line lexemes_from
by_an_earlier_one = refl

without_parameters : tokens (codes "#define ONE() 1 /* a number */" ∷ codes "x = ONE() + ONE( );" ∷ []) ≡ raw (codes "x = 1 + 1;")
unfolding number_of hex_number_of number_piece sign_one sign_two sign_three changing_sign sign_at format_at piece_at comment_end_from is_include after tokens_from word_of is_omp piece_on_line lexemes_from
without_parameters = refl

statements : tokens (codes "#define SWAP(a, b) { uint64_t t = a; a = b; b = t; }" ∷ codes "#define EACH(i, n) for (uint64_t i = 0; i < n; i++)" ∷ codes "EACH(k, 4) SWAP(A[k], A[k + 1])" ∷ []) ≡ raw (codes "for (uint64_t k = 0; k < 4; k++) { uint64_t t = A[k]; A[k] = A[k + 1]; A[k + 1] = t; }")
unfolding number_of hex_number_of number_piece sign_one sign_two sign_three changing_sign sign_at format_at piece_at comment_end_from is_include after tokens_from word_of is_omp piece_on_line lexemes_from
statements = refl

on_several_lines : tokens (codes "#define MAX(a, b) (a | b)" ∷ codes "x = MAX" ∷ codes "(1," ∷ codes "2);" ∷ []) ≡ raw (codes "x = (1 | 2);")
unfolding number_of hex_number_of number_piece sign_one sign_two sign_three changing_sign sign_at format_at piece_at comment_end_from is_include after tokens_from word_of is_omp piece_on_line lexemes_from
on_several_lines = refl

-- functions of OpenMP that are known, where they are called
devices : tokens (codes "for (int d = 0; d < omp_get_num_devices(); d++)" ∷ codes "k = omp_get_default_device ( ) + omp_get_num_devices;" ∷ []) ≡ raw (codes "for (int d = 0; d < 4; d++) k = 0 + omp_get_num_devices;")
unfolding number_of hex_number_of number_piece sign_one sign_two sign_three changing_sign sign_at format_at piece_at comment_end_from is_include after tokens_from word_of is_omp piece_on_line lexemes_from
devices = refl

-- its name without a bracket is none of a call
name_alone : tokens (codes "#define MAX(a, b) (a | b)" ∷ codes "uint64_t MAX; x = MAX + MAX(1, 2);" ∷ []) ≡ raw (codes "uint64_t MAX; x = MAX + (1 | 2);")
unfolding number_of hex_number_of number_piece sign_one sign_two sign_three changing_sign sign_at format_at piece_at comment_end_from is_include after tokens_from word_of is_omp piece_on_line lexemes_from
name_alone = refl

-- a call before the line is one of a function
before_its_definition : tokens (codes "uint64_t MAX(uint64_t a, uint64_t b) { return MAX(a, b); }" ∷ codes "#define MAX(a, b) (a | b)" ∷ codes "x = MAX(1, 2);" ∷ []) ≡ raw (codes "uint64_t MAX(uint64_t a, uint64_t b) { return MAX(a, b); } x = (1 | 2);")
unfolding number_of hex_number_of number_piece sign_one sign_two sign_three changing_sign sign_at format_at piece_at comment_end_from is_include after tokens_from word_of is_omp piece_on_line lexemes_from
before_its_definition = refl

-- only round brackets keep a comma, as in C
commas_in_square_brackets : tokens (codes "#define MAX(a, b) (a | b)" ∷ codes "x = MAX(A[1, 2]);" ∷ []) ≡ raw (codes "x = (A[1 | 2]);")
unfolding number_of hex_number_of number_piece sign_one sign_two sign_three changing_sign sign_at format_at piece_at comment_end_from is_include after tokens_from word_of is_omp piece_on_line lexemes_from
commas_in_square_brackets = refl

in_a_target : fault_in (lines (codes "#define GET(a, i) a[(i) * 2]" ∷ codes "uint64_t A[8]; int main() {" ∷ codes "#pragma omp target map(tofrom: A)" ∷ codes "{ GET(A, 1) = GET(A, 2) + 1; }" ∷ codes "}" ∷ [])) ≡ None
unfolding index_len number_of hex_number_of number_piece sign_one sign_two sign_three changing_sign sign_at format_at piece_at comment_end_from is_include after tokens_from word_of is_omp expression line_from clauses_from worked in_blocks typed printed undefined all_read initialized in_full run enter breaks wrong sort_of advance place_code first_broken first_wrong kind_of holds is_atomic is_target depth_of collapse_from uses_of uses_from line_fault line_breaks line_wrong line_enter line_advance line_place line_first_broken line_first_wrong piece_on_line lexemes_from
in_a_target = refl

-- ---- what stays as it is: the grammar refuses the line

blank_before_the_bracket : fault_in (lines (codes "#define MAX (a, b) (a | b)" ∷ codes "x = MAX(1, 2);" ∷ [])) ≡ at UnknownDirective 1 2
unfolding index_len number_of hex_number_of number_piece sign_one sign_two sign_three changing_sign sign_at format_at piece_at comment_end_from is_include after tokens_from word_of is_omp expression line_from clauses_from worked in_blocks typed printed undefined all_read initialized in_full run enter breaks wrong sort_of advance place_code first_broken first_wrong kind_of holds is_atomic is_target depth_of collapse_from uses_of uses_from line_fault line_breaks line_wrong line_enter line_advance line_place line_first_broken line_first_wrong piece_on_line lexemes_from
blank_before_the_bracket = refl

arguments_fewer : fault_in (lines (codes "#define MAX(a, b) (a | b)" ∷ codes "x = MAX(1);" ∷ [])) ≡ at UnknownDirective 1 2
unfolding index_len number_of hex_number_of number_piece sign_one sign_two sign_three changing_sign sign_at format_at piece_at comment_end_from is_include after tokens_from word_of is_omp expression line_from clauses_from worked in_blocks typed printed undefined all_read initialized in_full run enter breaks wrong sort_of advance place_code first_broken first_wrong kind_of holds is_atomic is_target depth_of collapse_from uses_of uses_from line_fault line_breaks line_wrong line_enter line_advance line_place line_first_broken line_first_wrong piece_on_line lexemes_from
arguments_fewer = refl

arguments_more : fault_in (lines (codes "#define MAX(a, b) (a | b)" ∷ codes "x = MAX(1, 2, 3);" ∷ [])) ≡ at UnknownDirective 1 2
unfolding index_len number_of hex_number_of number_piece sign_one sign_two sign_three changing_sign sign_at format_at piece_at comment_end_from is_include after tokens_from word_of is_omp expression line_from clauses_from worked in_blocks typed printed undefined all_read initialized in_full run enter breaks wrong sort_of advance place_code first_broken first_wrong kind_of holds is_atomic is_target depth_of collapse_from uses_of uses_from line_fault line_breaks line_wrong line_enter line_advance line_place line_first_broken line_first_wrong piece_on_line lexemes_from
arguments_more = refl

argument_missing : fault_in (lines (codes "#define ID(a) (a)" ∷ codes "x = ID();" ∷ [])) ≡ at UnknownDirective 1 2
unfolding index_len number_of hex_number_of number_piece sign_one sign_two sign_three changing_sign sign_at format_at piece_at comment_end_from is_include after tokens_from word_of is_omp expression line_from clauses_from worked in_blocks typed printed undefined all_read initialized in_full run enter breaks wrong sort_of advance place_code first_broken first_wrong kind_of holds is_atomic is_target depth_of collapse_from uses_of uses_from line_fault line_breaks line_wrong line_enter line_advance line_place line_first_broken line_first_wrong piece_on_line lexemes_from
argument_missing = refl

recursion : fault_in (lines (codes "#define F(x) (F(x) + 1)" ∷ codes "y = F(1);" ∷ [])) ≡ at UnknownDirective 1 2
unfolding index_len number_of hex_number_of number_piece sign_one sign_two sign_three changing_sign sign_at format_at piece_at comment_end_from is_include after tokens_from word_of is_omp expression line_from clauses_from worked in_blocks typed printed undefined all_read initialized in_full run enter breaks wrong sort_of advance place_code first_broken first_wrong kind_of holds is_atomic is_target depth_of collapse_from uses_of uses_from line_fault line_breaks line_wrong line_enter line_advance line_place line_first_broken line_first_wrong piece_on_line lexemes_from
recursion = refl

of_a_later_one : fault_in (lines (codes "#define F(x) (G(x) + 1)" ∷ codes "#define G(x) (x)" ∷ codes "y = F(1);" ∷ [])) ≡ at UnknownDirective 1 2
unfolding index_len number_of hex_number_of number_piece sign_one sign_two sign_three changing_sign sign_at format_at piece_at comment_end_from is_include after tokens_from word_of is_omp expression line_from clauses_from worked in_blocks typed printed undefined all_read initialized in_full run enter breaks wrong sort_of advance place_code first_broken first_wrong kind_of holds is_atomic is_target depth_of collapse_from uses_of uses_from line_fault line_breaks line_wrong line_enter line_advance line_place line_first_broken line_first_wrong piece_on_line lexemes_from
of_a_later_one = refl

defined_twice : fault_in (lines (codes "#define MAX(a, b) (a | b)" ∷ codes "#define MAX(a, b) (a | b)" ∷ codes "x = MAX(1, 2);" ∷ [])) ≡ at UnknownDirective 1 2
unfolding index_len number_of hex_number_of number_piece sign_one sign_two sign_three changing_sign sign_at format_at piece_at comment_end_from is_include after tokens_from word_of is_omp expression line_from clauses_from worked in_blocks typed printed undefined all_read initialized in_full run enter breaks wrong sort_of advance place_code first_broken first_wrong kind_of holds is_atomic is_target depth_of collapse_from uses_of uses_from line_fault line_breaks line_wrong line_enter line_advance line_place line_first_broken line_first_wrong piece_on_line lexemes_from
defined_twice = refl

defined_without_parameters_too : fault_in (lines (codes "#define MAX 3" ∷ codes "#define MAX(a, b) (a | b)" ∷ codes "x = MAX(1, 2);" ∷ [])) ≡ at UnknownDirective 2 2
unfolding index_len number_of hex_number_of number_piece sign_one sign_two sign_three changing_sign sign_at format_at piece_at comment_end_from is_include after tokens_from word_of is_omp expression line_from clauses_from worked in_blocks typed printed undefined all_read initialized in_full run enter breaks wrong sort_of advance place_code first_broken first_wrong kind_of holds is_atomic is_target depth_of collapse_from uses_of uses_from line_fault line_breaks line_wrong line_enter line_advance line_place line_first_broken line_first_wrong piece_on_line lexemes_from
defined_without_parameters_too = refl

defined_without_parameters_later : fault_in (lines (codes "#define MAX(a, b) (a | b)" ∷ codes "#define MAX 3" ∷ codes "x = MAX(1, 2);" ∷ [])) ≡ at UnknownDirective 1 2
unfolding index_len number_of hex_number_of number_piece sign_one sign_two sign_three changing_sign sign_at format_at piece_at comment_end_from is_include after tokens_from word_of is_omp expression line_from clauses_from worked in_blocks typed printed undefined all_read initialized in_full run enter breaks wrong sort_of advance place_code first_broken first_wrong kind_of holds is_atomic is_target depth_of collapse_from uses_of uses_from line_fault line_breaks line_wrong line_enter line_advance line_place line_first_broken line_first_wrong piece_on_line lexemes_from
defined_without_parameters_later = refl

parameter_twice : fault_in (lines (codes "#define MAX(a, a) (a | a)" ∷ codes "x = MAX(1, 2);" ∷ [])) ≡ at UnknownDirective 1 2
unfolding index_len number_of hex_number_of number_piece sign_one sign_two sign_three changing_sign sign_at format_at piece_at comment_end_from is_include after tokens_from word_of is_omp expression line_from clauses_from worked in_blocks typed printed undefined all_read initialized in_full run enter breaks wrong sort_of advance place_code first_broken first_wrong kind_of holds is_atomic is_target depth_of collapse_from uses_of uses_from line_fault line_breaks line_wrong line_enter line_advance line_place line_first_broken line_first_wrong piece_on_line lexemes_from
parameter_twice = refl

comma_in_the_body : fault_in (lines (codes "#define PAIR(a) a, a" ∷ codes "x = f(PAIR(1));" ∷ [])) ≡ at UnknownDirective 1 2
unfolding index_len number_of hex_number_of number_piece sign_one sign_two sign_three changing_sign sign_at format_at piece_at comment_end_from is_include after tokens_from word_of is_omp expression line_from clauses_from worked in_blocks typed printed undefined all_read initialized in_full run enter breaks wrong sort_of advance place_code first_broken first_wrong kind_of holds is_atomic is_target depth_of collapse_from uses_of uses_from line_fault line_breaks line_wrong line_enter line_advance line_place line_first_broken line_first_wrong piece_on_line lexemes_from
comma_in_the_body = refl

bracket_open : fault_in (lines (codes "#define HALF(a) (a" ∷ codes "x = HALF(1));" ∷ [])) ≡ at UnknownDirective 1 2
unfolding index_len number_of hex_number_of number_piece sign_one sign_two sign_three changing_sign sign_at format_at piece_at comment_end_from is_include after tokens_from word_of is_omp expression line_from clauses_from worked in_blocks typed printed undefined all_read initialized in_full run enter breaks wrong sort_of advance place_code first_broken first_wrong kind_of holds is_atomic is_target depth_of collapse_from uses_of uses_from line_fault line_breaks line_wrong line_enter line_advance line_place line_first_broken line_first_wrong piece_on_line lexemes_from
bracket_open = refl

bracket_closed : fault_in (lines (codes "#define HALF(a) 1) + (a" ∷ codes "x = (HALF(1));" ∷ [])) ≡ at UnknownDirective 1 2
unfolding index_len number_of hex_number_of number_piece sign_one sign_two sign_three changing_sign sign_at format_at piece_at comment_end_from is_include after tokens_from word_of is_omp expression line_from clauses_from worked in_blocks typed printed undefined all_read initialized in_full run enter breaks wrong sort_of advance place_code first_broken first_wrong kind_of holds is_atomic is_target depth_of collapse_from uses_of uses_from line_fault line_breaks line_wrong line_enter line_advance line_place line_first_broken line_first_wrong piece_on_line lexemes_from
bracket_closed = refl

comment_in_the_body : fault_in (lines (codes "#define F(a) a /* + 1 */ + 2" ∷ codes "x = F(1);" ∷ [])) ≡ at UnknownDirective 1 2
unfolding index_len number_of hex_number_of number_piece sign_one sign_two sign_three changing_sign sign_at format_at piece_at comment_end_from is_include after tokens_from word_of is_omp expression line_from clauses_from worked in_blocks typed printed undefined all_read initialized in_full run enter breaks wrong sort_of advance place_code first_broken first_wrong kind_of holds is_atomic is_target depth_of collapse_from uses_of uses_from line_fault line_breaks line_wrong line_enter line_advance line_place line_first_broken line_first_wrong piece_on_line lexemes_from
comment_in_the_body = refl

name_alone_in_an_argument : fault_in (lines (codes "#define ID(x) x" ∷ codes "y = ID(ID) (1);" ∷ [])) ≡ at UnknownDirective 1 2
unfolding index_len number_of hex_number_of number_piece sign_one sign_two sign_three changing_sign sign_at format_at piece_at comment_end_from is_include after tokens_from word_of is_omp expression line_from clauses_from worked in_blocks typed printed undefined all_read initialized in_full run enter breaks wrong sort_of advance place_code first_broken first_wrong kind_of holds is_atomic is_target depth_of collapse_from uses_of uses_from line_fault line_breaks line_wrong line_enter line_advance line_place line_first_broken line_first_wrong piece_on_line lexemes_from
name_alone_in_an_argument = refl

name_alone_in_a_body : fault_in (lines (codes "#define F(x) (x)" ∷ codes "#define G(x) F" ∷ codes "y = G(1) (2);" ∷ [])) ≡ at UnknownDirective 1 2
unfolding index_len number_of hex_number_of number_piece sign_one sign_two sign_three changing_sign sign_at format_at piece_at comment_end_from is_include after tokens_from word_of is_omp expression line_from clauses_from worked in_blocks typed printed undefined all_read initialized in_full run enter breaks wrong sort_of advance place_code first_broken first_wrong kind_of holds is_atomic is_target depth_of collapse_from uses_of uses_from line_fault line_breaks line_wrong line_enter line_advance line_place line_first_broken line_first_wrong piece_on_line lexemes_from
name_alone_in_a_body = refl

line_in_a_call : fault_in (lines (codes "#define MAX(a, b) (a | b)" ∷ codes "x = MAX(1," ∷ codes "#define N 2" ∷ codes "N);" ∷ [])) ≡ at UnknownDirective 1 2
unfolding index_len number_of hex_number_of number_piece sign_one sign_two sign_three changing_sign sign_at format_at piece_at comment_end_from is_include after tokens_from word_of is_omp expression line_from clauses_from worked in_blocks typed printed undefined all_read initialized in_full run enter breaks wrong sort_of advance place_code first_broken first_wrong kind_of holds is_atomic is_target depth_of collapse_from uses_of uses_from line_fault line_breaks line_wrong line_enter line_advance line_place line_first_broken line_first_wrong piece_on_line lexemes_from
line_in_a_call = refl

never_closed : fault_in (lines (codes "#define MAX(a, b) (a | b)" ∷ codes "x = MAX(1, 2;" ∷ [])) ≡ at UnknownDirective 1 2
unfolding index_len number_of hex_number_of number_piece sign_one sign_two sign_three changing_sign sign_at format_at piece_at comment_end_from is_include after tokens_from word_of is_omp expression line_from clauses_from worked in_blocks typed printed undefined all_read initialized in_full run enter breaks wrong sort_of advance place_code first_broken first_wrong kind_of holds is_atomic is_target depth_of collapse_from uses_of uses_from line_fault line_breaks line_wrong line_enter line_advance line_place line_first_broken line_first_wrong piece_on_line lexemes_from
never_closed = refl

no_body : fault_in (lines (codes "#define F(x)" ∷ codes "F(1)" ∷ [])) ≡ at UnknownDirective 1 2
unfolding index_len number_of hex_number_of number_piece sign_one sign_two sign_three changing_sign sign_at format_at piece_at comment_end_from is_include after tokens_from word_of is_omp expression line_from clauses_from worked in_blocks typed printed undefined all_read initialized in_full run enter breaks wrong sort_of advance place_code first_broken first_wrong kind_of holds is_atomic is_target depth_of collapse_from uses_of uses_from line_fault line_breaks line_wrong line_enter line_advance line_place line_first_broken line_first_wrong piece_on_line lexemes_from
no_body = refl

refused : fault_in (lines (codes "#define F(x) (F(x) + 1)" ∷ codes "int main() { print(F(1)); }" ∷ [])) ≡ at UnknownDirective 1 2
unfolding index_len number_of hex_number_of number_piece sign_one sign_two sign_three changing_sign sign_at format_at piece_at comment_end_from is_include after tokens_from word_of is_omp expression line_from clauses_from worked in_blocks typed printed undefined all_read initialized in_full run enter breaks wrong sort_of advance place_code first_broken first_wrong kind_of holds is_atomic is_target depth_of collapse_from uses_of uses_from line_fault line_breaks line_wrong line_enter line_advance line_place line_first_broken line_first_wrong piece_on_line lexemes_from
refused = refl
