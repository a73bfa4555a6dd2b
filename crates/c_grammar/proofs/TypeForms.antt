-- What numbers of the type int are read as, by computation.
use Rattle.std.proofs.Common.{◌≡◌, ◌++◌, ℕ, List, Option, Some, None, map, refl}
use Rattle.std.specs.Prelude.{codes}
use Rattle.base.specs.declared.fault.TextFault.{TextFault}
use Rattle.base.specs.declared.fault.ReadCode.{ReadCode as Code}
use Rattle.base.specs.declared.fault.ReadCode.TheVariants.{Unexpected}
use Rattle.c_tokens.specs.Piece.{number_of, hex_number_of, number_piece, sign_one, sign_two, sign_three, changing_sign, sign_at, format_at, piece_at, comment_end_from, is_include}
use Rattle.c_tokens.specs.Text.{after, tokens_from, tokens_of}
use Rattle.c_grammar.specs.AsciiNames.{terminals_of}
use Rattle.c_grammar.specs.Lexeme.{word_of, piece_on_line, lexemes_from}
use Rattle.c_grammar.specs.Lines.{is_omp, kind_of, holds, is_atomic, is_target, depth_of, collapse_from, uses_of, uses_from, line_fault}
use Rattle.c_grammar.specs.LineRules.{line_breaks, line_wrong, line_enter}
use Rattle.c_grammar.specs.LineMachine.{line_advance, line_place, line_first_broken, line_first_wrong}
use Rattle.c_grammar.specs.Expressions.{expression}
use Rattle.c_grammar.specs.Functions.{called, defined, arguments, index_len}
use Rattle.c_grammar.specs.FunctionHeads.{parameters}
use Rattle.c_grammar.specs.LineForms.{line_from}
use Rattle.c_grammar.specs.Constants.{worked, undefined}
use Rattle.c_grammar.specs.Changes.{in_full}
use Rattle.c_grammar.specs.Allocations.{all_read}
use Rattle.c_grammar.specs.Clauses.{clauses_from}
use Rattle.c_grammar.specs.Initial.{initialized}
use Rattle.c_grammar.specs.Blocks.{typed, in_blocks}
use Rattle.c_grammar.specs.Prints.{printed}
use Rattle.c_grammar.specs.Machine.{run}
use Rattle.c_grammar.specs.Rules.{enter, breaks, wrong, sort_of}
use Rattle.c_grammar.specs.Terminal.{Terminal}
use Rattle.c_grammar.specs.Program.{advance, place_code, first_broken, first_wrong}
use Rattle.c_grammar.specs.Types.{of_one_type}
use Rattle.c_grammar.specs.Source.{fault_in, item_of, items_of}

abbrev at : Code → ℕ → ℕ → Option TextFault
at code line column = Some (record { code = code; line = line; column = column })

abbrev tokens : List ℕ → List Terminal
tokens text = terminals_of (items_of text)

-- the tokens as they stand
abbrev own : List ℕ → List Terminal
own text = terminals_of (map (item_of text) (tokens_of text))

-- the tokens with uint64_t for int, where each value is small
abbrev retyped : List ℕ → List Terminal
retyped text = terminals_of (of_one_type (printed 0 (map (item_of text) (tokens_of text))))

-- ---- uint64_t for int

all_small : tokens (codes "int A[4], b; int main(void) { b = 3; A[b % 4] = b + 1; printf(\"%d\\n\", A[1]); }")
    ≡ tokens (codes "uint64_t A[4], b; int main(void) { b = 3; A[b % 4] = b + 1; print(A[1]); }")
unfolding called defined parameters arguments index_len number_of hex_number_of number_piece sign_one sign_two
    sign_three changing_sign sign_at format_at piece_at comment_end_from is_include after tokens_from word_of is_omp
    expression line_from clauses_from worked in_blocks typed printed undefined all_read initialized in_full run
    enter breaks wrong sort_of advance place_code first_broken first_wrong kind_of holds is_atomic is_target
    depth_of collapse_from uses_of uses_from line_fault line_breaks line_wrong line_enter line_advance line_place
    line_first_broken line_first_wrong piece_on_line lexemes_from
all_small = refl

is_read : fault_in (codes "int A[4], b; int main(void) { b = 3; A[b % 4] = b + 1; printf(\"%d\\n\", A[1]); }") ≡ None
unfolding called defined parameters arguments index_len number_of hex_number_of number_piece sign_one sign_two
    sign_three changing_sign sign_at format_at piece_at comment_end_from is_include after tokens_from word_of is_omp
    expression line_from clauses_from worked in_blocks typed printed undefined all_read initialized in_full run
    enter breaks wrong sort_of advance place_code first_broken first_wrong kind_of holds is_atomic is_target
    depth_of collapse_from uses_of uses_from line_fault line_breaks line_wrong line_enter line_advance line_place
    line_first_broken line_first_wrong piece_on_line lexemes_from
is_read = refl

-- an int function, its parameter, a pointer and what is passed
a_function : retyped (
    codes "int f(int *p, int n) { p[n] = n + 1; return p[n]; } int A[2], x; int main(void) { " ++
    codes "x = f(A, 1); }")
    ≡ own (
    codes "uint64_t f(uint64_t *p, uint64_t n) { p[n] = n + 1; return p[n]; } uint64_t A[2], x; " ++
    codes "int main(void) { x = f(A, 1); }")
unfolding number_of hex_number_of number_piece sign_one sign_two sign_three changing_sign sign_at format_at piece_at
    comment_end_from is_include after tokens_from word_of piece_on_line lexemes_from is_omp printed
a_function = refl

-- what is chosen
either : retyped (codes "int a, b, x; int main(void) { a = 1; b = 2; x = a < b ? a : b; }")
    ≡ own (codes "uint64_t a, b, x; int main(void) { a = 1; b = 2; x = a < b ? a : b; }")
unfolding number_of hex_number_of number_piece sign_one sign_two sign_three changing_sign sign_at format_at piece_at
    comment_end_from is_include after tokens_from word_of piece_on_line lexemes_from is_omp printed
either = refl

-- a comparison and a logical value are small, whatever is compared
a_comparison : retyped (codes "int x; uint64_t y; int main(void) { x = y - 1 < 2; x = !(y > 3) && y; }")
    ≡ own (codes "uint64_t x; uint64_t y; int main(void) { x = y - 1 < 2; x = !(y > 3) && y; }")
unfolding number_of hex_number_of number_piece sign_one sign_two sign_three changing_sign sign_at format_at piece_at
    comment_end_from is_include after tokens_from word_of piece_on_line lexemes_from is_omp printed
a_comparison = refl

-- so is a cell of ints, whatever its index is
in_an_index : retyped (codes "int A[4], x; uint64_t y; int main(void) { x = A[y - 1]; }")
    ≡ own (codes "uint64_t A[4], x; uint64_t y; int main(void) { x = A[y - 1]; }")
unfolding number_of hex_number_of number_piece sign_one sign_two sign_three changing_sign sign_at format_at piece_at
    comment_end_from is_include after tokens_from word_of piece_on_line lexemes_from is_omp printed
in_an_index = refl

a_list : retyped (codes "int A[2] = { 1, 2 }; int main(void) { A[0] += 1; }")
    ≡ own (codes "uint64_t A[2] = { 1, 2 }; int main(void) { A[0] += 1; }")
unfolding number_of hex_number_of number_piece sign_one sign_two sign_three changing_sign sign_at format_at piece_at
    comment_end_from is_include after tokens_from word_of piece_on_line lexemes_from is_omp printed
a_list = refl

sizes_and_casts : retyped (codes "int *p; int main(void) { p = (int *) malloc(4 * sizeof(int)); }")
    ≡ own (codes "uint64_t *p; int main(void) { p = (uint64_t *) malloc(4 * sizeof(uint64_t)); }")
unfolding number_of hex_number_of number_piece sign_one sign_two sign_three changing_sign sign_at format_at piece_at
    comment_end_from is_include after tokens_from word_of piece_on_line lexemes_from is_omp printed
sizes_and_casts = refl

-- ---- what stays an int

-- what main takes
of_main : retyped (codes "int x; int main(int argc, char **argv) { x = 1; }")
    ≡ own (codes "uint64_t x; int main(int argc, char **argv) { x = 1; }")
unfolding number_of hex_number_of number_piece sign_one sign_two sign_three changing_sign sign_at format_at piece_at
    comment_end_from is_include after tokens_from word_of piece_on_line lexemes_from is_omp printed
of_main = refl

-- a name of a loop
beside_a_loop_name : retyped (codes "int A[4]; int main(void) { int i, n; for (i = 0; i < 4; i++) A[i] = i; n = 1; }")
    ≡ own (
    codes "uint64_t A[4]; int main(void) { int i; uint64_t n; for (i = 0; i < 4; i++) A[i] = i; " ++
    codes "n = 1; }")
unfolding number_of hex_number_of number_piece sign_one sign_two sign_three changing_sign sign_at format_at piece_at
    comment_end_from is_include after tokens_from word_of piece_on_line lexemes_from is_omp printed
beside_a_loop_name = refl

-- which each loop that has it sets anew
set_anew : retyped (codes "int A[4]; int main(void) { int j = 0; for (j = 0; j < 4; j++) A[j] = j; }")
    ≡ own (codes "uint64_t A[4]; int main(void) { int j; for (j = 0; j < 4; j++) A[j] = j; }")
unfolding number_of hex_number_of number_piece sign_one sign_two sign_three changing_sign sign_at format_at piece_at
    comment_end_from is_include after tokens_from word_of piece_on_line lexemes_from is_omp printed
set_anew = refl

-- a scalar that nothing changes
a_constant : retyped (codes "int n = 4; int A[4]; int main(void) { A[0] = n; }")
    ≡ own (codes "int n = 4; uint64_t A[4]; int main(void) { A[0] = n; }")
unfolding number_of hex_number_of number_piece sign_one sign_two sign_three changing_sign sign_at format_at piece_at
    comment_end_from is_include after tokens_from word_of piece_on_line lexemes_from is_omp printed
a_constant = refl

-- what is uint64_t elsewhere
declared_twice : retyped (codes "int x, y; void f(void) { uint64_t x = 1; x = 2; } int main(void) { y = 1; }")
    ≡ own (codes "int x; uint64_t y; void f(void) { uint64_t x = 1; x = 2; } int main(void) { y = 1; }")
unfolding number_of hex_number_of number_piece sign_one sign_two sign_three changing_sign sign_at format_at piece_at
    comment_end_from is_include after tokens_from word_of piece_on_line lexemes_from is_omp printed
declared_twice = refl

-- ---- where one value is not small

-- a number of 64 bits
of_64_bits : retyped (codes "int x; uint64_t y; int main(void) { x = y; }")
    ≡ own (codes "int x; uint64_t y; int main(void) { x = y; }")
unfolding number_of hex_number_of number_piece sign_one sign_two sign_three changing_sign sign_at format_at piece_at
    comment_end_from is_include after tokens_from word_of piece_on_line lexemes_from is_omp printed
of_64_bits = refl

a_difference : retyped (codes "int x, a, b; int main(void) { a = 1; b = 2; x = a - b; }")
    ≡ own (codes "int x, a, b; int main(void) { a = 1; b = 2; x = a - b; }")
unfolding number_of hex_number_of number_piece sign_one sign_two sign_three changing_sign sign_at format_at piece_at
    comment_end_from is_include after tokens_from word_of piece_on_line lexemes_from is_omp printed
a_difference = refl

taken_from : retyped (codes "int x, a; int main(void) { a = 1; x -= a; }")
    ≡ own (codes "int x, a; int main(void) { a = 1; x -= a; }")
unfolding number_of hex_number_of number_piece sign_one sign_two sign_three changing_sign sign_at format_at piece_at
    comment_end_from is_include after tokens_from word_of piece_on_line lexemes_from is_omp printed
taken_from = refl

counted_down : retyped (codes "int x; int main(void) { x = 4; x--; }")
    ≡ own (codes "int x; int main(void) { x = 4; x--; }")
unfolding number_of hex_number_of number_piece sign_one sign_two sign_three changing_sign sign_at format_at piece_at
    comment_end_from is_include after tokens_from word_of piece_on_line lexemes_from is_omp printed
counted_down = refl

counted_down_before : retyped (codes "int x; int main(void) { x = 4; --x; }")
    ≡ own (codes "int x; int main(void) { x = 4; --x; }")
unfolding number_of hex_number_of number_piece sign_one sign_two sign_three changing_sign sign_at format_at piece_at
    comment_end_from is_include after tokens_from word_of piece_on_line lexemes_from is_omp printed
counted_down_before = refl

a_large_number : retyped (codes "int x; int main(void) { x = 2147483648; }")
    ≡ own (codes "int x; int main(void) { x = 2147483648; }")
unfolding number_of hex_number_of number_piece sign_one sign_two sign_three changing_sign sign_at format_at piece_at
    comment_end_from is_include after tokens_from word_of piece_on_line lexemes_from is_omp printed
a_large_number = refl

the_largest : retyped (codes "int x; int main(void) { x = 2147483647; }")
    ≡ own (codes "uint64_t x; int main(void) { x = 2147483647; }")
unfolding number_of hex_number_of number_piece sign_one sign_two sign_three changing_sign sign_at format_at piece_at
    comment_end_from is_include after tokens_from word_of piece_on_line lexemes_from is_omp printed
the_largest = refl

-- what a function returns
returned : retyped (codes "int f(uint64_t y) { return y; } int x; int main(void) { x = 1; }")
    ≡ own (codes "int f(uint64_t y) { return y; } int x; int main(void) { x = 1; }")
unfolding number_of hex_number_of number_piece sign_one sign_two sign_three changing_sign sign_at format_at piece_at
    comment_end_from is_include after tokens_from word_of piece_on_line lexemes_from is_omp printed
returned = refl

-- what is passed
passed : retyped (codes "int f(int n) { return n; } int x; uint64_t y; int main(void) { x = f(y); }")
    ≡ own (codes "int f(int n) { return n; } int x; uint64_t y; int main(void) { x = f(y); }")
unfolding number_of hex_number_of number_piece sign_one sign_two sign_three changing_sign sign_at format_at piece_at
    comment_end_from is_include after tokens_from word_of piece_on_line lexemes_from is_omp printed
passed = refl

-- what is chosen
chosen : retyped (codes "int x; uint64_t y; int main(void) { x = y ? 1 : y; }")
    ≡ own (codes "int x; uint64_t y; int main(void) { x = y ? 1 : y; }")
unfolding number_of hex_number_of number_piece sign_one sign_two sign_three changing_sign sign_at format_at piece_at
    comment_end_from is_include after tokens_from word_of piece_on_line lexemes_from is_omp printed
chosen = refl

in_a_list : retyped (codes "int A[2] = { 1, 4294967296 }; int main(void) { A[0] = 1; }")
    ≡ own (codes "int A[2] = { 1, 4294967296 }; int main(void) { A[0] = 1; }")
unfolding number_of hex_number_of number_piece sign_one sign_two sign_three changing_sign sign_at format_at piece_at
    comment_end_from is_include after tokens_from word_of piece_on_line lexemes_from is_omp printed
in_a_list = refl

complement : retyped (codes "int x, a; int main(void) { a = 1; x = ~a; }")
    ≡ own (codes "int x, a; int main(void) { a = 1; x = ~a; }")
unfolding number_of hex_number_of number_piece sign_one sign_two sign_three changing_sign sign_at format_at piece_at
    comment_end_from is_include after tokens_from word_of piece_on_line lexemes_from is_omp printed
complement = refl

-- a constant that may be large
unknown_constant : retyped (codes "enum { N = 4294967296 }; int x; int main(void) { x = N; }")
    ≡ own (codes "enum { N = 4294967296 }; int x; int main(void) { x = N; }")
unfolding number_of hex_number_of number_piece sign_one sign_two sign_three changing_sign sign_at format_at piece_at
    comment_end_from is_include after tokens_from word_of piece_on_line lexemes_from is_omp printed
unknown_constant = refl

-- ---- printf("%d\n", e)

prints_64_bits : fault_in (codes "uint64_t y; int main(void) { printf(\"%d\\n\", y); }") ≡ at Unexpected 1 37
unfolding called defined parameters arguments index_len number_of hex_number_of number_piece sign_one sign_two
    sign_three changing_sign sign_at format_at piece_at comment_end_from is_include after tokens_from word_of is_omp
    expression line_from clauses_from worked in_blocks typed printed undefined all_read initialized in_full run
    enter breaks wrong sort_of advance place_code first_broken first_wrong kind_of holds is_atomic is_target
    depth_of collapse_from uses_of uses_from line_fault line_breaks line_wrong line_enter line_advance line_place
    line_first_broken line_first_wrong piece_on_line lexemes_from
prints_64_bits = refl

prints_a_difference : fault_in (codes "int x, y; int main(void) { x = 1; y = 2; printf(\"%d\\n\", x - y); }")
    ≡ at Unexpected 1 5
unfolding called defined parameters arguments index_len number_of hex_number_of number_piece sign_one sign_two
    sign_three changing_sign sign_at format_at piece_at comment_end_from is_include after tokens_from word_of is_omp
    expression line_from clauses_from worked in_blocks typed printed undefined all_read initialized in_full run
    enter breaks wrong sort_of advance place_code first_broken first_wrong kind_of holds is_atomic is_target
    depth_of collapse_from uses_of uses_from line_fault line_breaks line_wrong line_enter line_advance line_place
    line_first_broken line_first_wrong piece_on_line lexemes_from
prints_a_difference = refl
