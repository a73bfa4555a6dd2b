-- What calls inside of values are read as, by computation.
use Rattle.std.proofs.Common.{◌≡◌, ◌++◌, ℕ, List, Option, Some, refl}
use Rattle.std.specs.Prelude.{codes}
use Rattle.base.specs.declared.fault.TextFault.{TextFault}
use Rattle.base.specs.declared.fault.ReadCode.{ReadCode as Code}
use Rattle.base.specs.declared.fault.ReadCode.TheVariants.{Undeclared}
use Rattle.c_tokens.specs.Piece.{number_of, hex_number_of, number_piece, sign_one, sign_two, sign_three, changing_sign, sign_at, format_at, piece_at, comment_end_from, is_include}
use Rattle.c_tokens.specs.Text.{after, tokens_from}
use Rattle.c_grammar.specs.AsciiNames.{terminals_of}
use Rattle.c_grammar.specs.Lexeme.{word_of, piece_on_line, lexemes_from}
use Rattle.c_grammar.specs.Lines.{is_omp, kind_of, holds, is_atomic, is_target, depth_of, collapse_from, uses_of, uses_from, line_fault}
use Rattle.c_grammar.specs.LineRules.{line_breaks, line_wrong, line_enter}
use Rattle.c_grammar.specs.LineMachine.{line_advance, line_place, line_first_broken, line_first_wrong}
use Rattle.c_grammar.specs.Expressions.{expression}
use Rattle.c_grammar.specs.Functions.{called, defined, arguments, index_len}
use Rattle.c_grammar.specs.FunctionHeads.{parameters}
use Rattle.c_grammar.specs.LineForms.{line_from}
use Rattle.c_grammar.specs.Constants.{worked, undefined}
use Rattle.c_grammar.specs.Changes.{in_full}
use Rattle.c_grammar.specs.Allocations.{all_read}
use Rattle.c_grammar.specs.Clauses.{clauses_from}
use Rattle.c_grammar.specs.Initial.{initialized}
use Rattle.c_grammar.specs.Blocks.{typed, in_blocks}
use Rattle.c_grammar.specs.Prints.{printed}
use Rattle.c_grammar.specs.Machine.{run}
use Rattle.c_grammar.specs.Rules.{enter, breaks, wrong, sort_of}
use Rattle.c_grammar.specs.Terminal.{Terminal}
use Rattle.c_grammar.specs.Program.{advance, place_code, first_broken, first_wrong}
use Rattle.c_grammar.specs.Source.{fault_in, items_of}

abbrev at : Code → ℕ → ℕ → Option TextFault
at code line column = Some (record { code = code; line = line; column = column })

abbrev tokens : List ℕ → List Terminal
tokens text = terminals_of (items_of text)

-- a function and main, and main alone
abbrev with_function : List ℕ → List ℕ
with_function text =
    codes "uint64_t f(uint64_t a) { return a + 1; } uint64_t x, A[4]; int main(void) { " ++ (text ++ codes " }")

abbrev alone : List ℕ → List ℕ
alone text = codes "uint64_t x, A[4]; int main(void) { " ++ (text ++ codes " }")

changes : tokens (with_function (codes "x += f(1);")) ≡ tokens (alone (codes "{ x += 1 + 1; }"))
unfolding called defined parameters arguments index_len number_of hex_number_of number_piece sign_one sign_two
    sign_three changing_sign sign_at format_at piece_at comment_end_from is_include after tokens_from word_of is_omp
    expression line_from clauses_from worked in_blocks typed printed undefined all_read initialized in_full run
    enter breaks wrong sort_of advance place_code first_broken first_wrong kind_of holds is_atomic is_target
    depth_of collapse_from uses_of uses_from line_fault line_breaks line_wrong line_enter line_advance line_place
    line_first_broken line_first_wrong piece_on_line lexemes_from
changes = refl

in_a_sum : tokens (with_function (codes "x = 1 + f(2) * 3;")) ≡ tokens (alone (codes "{ x = 1 + (2 + 1) * 3; }"))
unfolding called defined parameters arguments index_len number_of hex_number_of number_piece sign_one sign_two
    sign_three changing_sign sign_at format_at piece_at comment_end_from is_include after tokens_from word_of is_omp
    expression line_from clauses_from worked in_blocks typed printed undefined all_read initialized in_full run
    enter breaks wrong sort_of advance place_code first_broken first_wrong kind_of holds is_atomic is_target
    depth_of collapse_from uses_of uses_from line_fault line_breaks line_wrong line_enter line_advance line_place
    line_first_broken line_first_wrong piece_on_line lexemes_from
in_a_sum = refl

in_a_declaration : tokens (with_function (codes "uint64_t y = 2 * f(3); x = y;"))
    ≡ tokens (alone (codes "uint64_t y = 0; { y = 2 * (3 + 1); } x = y;"))
unfolding called defined parameters arguments index_len number_of hex_number_of number_piece sign_one sign_two
    sign_three changing_sign sign_at format_at piece_at comment_end_from is_include after tokens_from word_of is_omp
    expression line_from clauses_from worked in_blocks typed printed undefined all_read initialized in_full run
    enter breaks wrong sort_of advance place_code first_broken first_wrong kind_of holds is_atomic is_target
    depth_of collapse_from uses_of uses_from line_fault line_breaks line_wrong line_enter line_advance line_place
    line_first_broken line_first_wrong piece_on_line lexemes_from
in_a_declaration = refl

given_to_a_cell : tokens (with_function (codes "uint64_t y = 1; y = x; A[y] = f(y) + A[1];"))
    ≡ tokens (alone (codes "uint64_t y = 1; y = x; { A[y] = (y + 1) + A[1]; }"))
unfolding called defined parameters arguments index_len number_of hex_number_of number_piece sign_one sign_two
    sign_three changing_sign sign_at format_at piece_at comment_end_from is_include after tokens_from word_of is_omp
    expression line_from clauses_from worked in_blocks typed printed undefined all_read initialized in_full run
    enter breaks wrong sort_of advance place_code first_broken first_wrong kind_of holds is_atomic is_target
    depth_of collapse_from uses_of uses_from line_fault line_breaks line_wrong line_enter line_advance line_place
    line_first_broken line_first_wrong piece_on_line lexemes_from
given_to_a_cell = refl

in_brackets : tokens (with_function (codes "x = (x + f(2)) < 3;"))
    ≡ tokens (alone (codes "{ x = (x + (2 + 1)) < 3; }"))
unfolding called defined parameters arguments index_len number_of hex_number_of number_piece sign_one sign_two
    sign_three changing_sign sign_at format_at piece_at comment_end_from is_include after tokens_from word_of is_omp
    expression line_from clauses_from worked in_blocks typed printed undefined all_read initialized in_full run
    enter breaks wrong sort_of advance place_code first_broken first_wrong kind_of holds is_atomic is_target
    depth_of collapse_from uses_of uses_from line_fault line_breaks line_wrong line_enter line_advance line_place
    line_first_broken line_first_wrong piece_on_line lexemes_from
in_brackets = refl

-- two calls in one value
two_calls : fault_in (with_function (codes "x = f(1) + f(2);")) ≡ at Undeclared 1 81
unfolding called defined parameters arguments index_len number_of hex_number_of number_piece sign_one sign_two
    sign_three changing_sign sign_at format_at piece_at comment_end_from is_include after tokens_from word_of is_omp
    expression line_from clauses_from worked in_blocks typed printed undefined all_read initialized in_full run
    enter breaks wrong sort_of advance place_code first_broken first_wrong kind_of holds is_atomic is_target
    depth_of collapse_from uses_of uses_from line_fault line_breaks line_wrong line_enter line_advance line_place
    line_first_broken line_first_wrong piece_on_line lexemes_from
two_calls = refl

passed_to_another : fault_in (with_function (codes "x = f(f(2));")) ≡ at Undeclared 1 83
unfolding called defined parameters arguments index_len number_of hex_number_of number_piece sign_one sign_two
    sign_three changing_sign sign_at format_at piece_at comment_end_from is_include after tokens_from word_of is_omp
    expression line_from clauses_from worked in_blocks typed printed undefined all_read initialized in_full run
    enter breaks wrong sort_of advance place_code first_broken first_wrong kind_of holds is_atomic is_target
    depth_of collapse_from uses_of uses_from line_fault line_breaks line_wrong line_enter line_advance line_place
    line_first_broken line_first_wrong piece_on_line lexemes_from
passed_to_another = refl

-- what may not be evaluated
behind_and : fault_in (with_function (codes "x = x && f(2);")) ≡ at Undeclared 1 86
unfolding called defined parameters arguments index_len number_of hex_number_of number_piece sign_one sign_two
    sign_three changing_sign sign_at format_at piece_at comment_end_from is_include after tokens_from word_of is_omp
    expression line_from clauses_from worked in_blocks typed printed undefined all_read initialized in_full run
    enter breaks wrong sort_of advance place_code first_broken first_wrong kind_of holds is_atomic is_target
    depth_of collapse_from uses_of uses_from line_fault line_breaks line_wrong line_enter line_advance line_place
    line_first_broken line_first_wrong piece_on_line lexemes_from
behind_and = refl

in_a_choice : fault_in (with_function (codes "x = x ? f(2) : 1;")) ≡ at Undeclared 1 85
unfolding called defined parameters arguments index_len number_of hex_number_of number_piece sign_one sign_two
    sign_three changing_sign sign_at format_at piece_at comment_end_from is_include after tokens_from word_of is_omp
    expression line_from clauses_from worked in_blocks typed printed undefined all_read initialized in_full run
    enter breaks wrong sort_of advance place_code first_broken first_wrong kind_of holds is_atomic is_target
    depth_of collapse_from uses_of uses_from line_fault line_breaks line_wrong line_enter line_advance line_place
    line_first_broken line_first_wrong piece_on_line lexemes_from
in_a_choice = refl
