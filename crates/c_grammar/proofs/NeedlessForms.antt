-- What says nothing is left out of sources, by computation.
use Rattle.std.proofs.Common.{◌≡◌, ◌++◌, ℕ, List, [], ◌∷◌, None, map, refl}
use Rattle.std.specs.Prelude.{codes}
use Rattle.c_tokens.specs.Piece.{number_of, hex_number_of, number_piece, sign_one, sign_two, sign_three, changing_sign, sign_at, format_at, piece_at, comment_end_from, is_include}
use Rattle.c_tokens.specs.Text.{after, tokens_from, tokens_of}
use Rattle.c_grammar.specs.AsciiNames.{terminals_of}
use Rattle.c_grammar.specs.Lexeme.{word_of, piece_on_line, lexemes_from}
use Rattle.c_grammar.specs.Lines.{is_omp, kind_of, holds, is_atomic, is_target, depth_of, collapse_from, uses_of, uses_from, line_fault}
use Rattle.c_grammar.specs.LineRules.{line_breaks, line_wrong, line_enter}
use Rattle.c_grammar.specs.LineMachine.{line_advance, line_place, line_first_broken, line_first_wrong}
use Rattle.c_grammar.specs.Expressions.{expression}
use Rattle.c_grammar.specs.Functions.{called, defined, arguments, index_len}
use Rattle.c_grammar.specs.FunctionHeads.{parameters}
use Rattle.c_grammar.specs.LineForms.{line_from}
use Rattle.c_grammar.specs.Constants.{worked, undefined}
use Rattle.c_grammar.specs.Changes.{in_full}
use Rattle.c_grammar.specs.Allocations.{all_read}
use Rattle.c_grammar.specs.Clauses.{clauses_from}
use Rattle.c_grammar.specs.Initial.{initialized}
use Rattle.c_grammar.specs.Blocks.{typed, in_blocks}
use Rattle.c_grammar.specs.Prints.{printed}
use Rattle.c_grammar.specs.Machine.{run}
use Rattle.c_grammar.specs.Rules.{enter, breaks, wrong, sort_of}
use Rattle.c_grammar.specs.Terminal.{Terminal}
use Rattle.c_grammar.specs.Program.{advance, place_code, first_broken, first_wrong}
use Rattle.c_grammar.specs.Needless.{needed}
use Rattle.c_grammar.specs.Source.{fault_in, item_of, items_of}

abbrev tokens : List ℕ → List Terminal
tokens text = terminals_of (items_of text)

-- the tokens as they stand
abbrev own : List ℕ → List Terminal
own text = terminals_of (map (item_of text) (tokens_of text))

-- the tokens without those that say nothing
abbrev left : List ℕ → List Terminal
left text = terminals_of (needed (map (item_of text) (tokens_of text)))

-- ---- declarations of functions

prototypes : left (
    codes "extern void f(uint64_t *, int); static uint64_t g(uint64_t n); int h(void); uint64_t x; " ++
    codes "int main(void) { }")
    ≡ own (codes "uint64_t x; int main(void) { }")
unfolding number_of hex_number_of number_piece sign_one sign_two sign_three changing_sign sign_at format_at piece_at
    comment_end_from is_include after tokens_from word_of piece_on_line lexemes_from is_omp printed
prototypes = refl

-- a function that is defined stays
with_its_body : left (codes "uint64_t f(uint64_t n); uint64_t f(uint64_t n) { return n; } int main(void) { }")
    ≡ own (codes "uint64_t f(uint64_t n) { return n; } int main(void) { }")
unfolding number_of hex_number_of number_piece sign_one sign_two sign_three changing_sign sign_at format_at piece_at
    comment_end_from is_include after tokens_from word_of piece_on_line lexemes_from is_omp printed
with_its_body = refl

-- a declaration of no function stays
of_a_variable : left (codes "extern uint64_t x; int main(void) { }")
    ≡ own (codes "extern uint64_t x; int main(void) { }")
unfolding number_of hex_number_of number_piece sign_one sign_two sign_three changing_sign sign_at format_at piece_at
    comment_end_from is_include after tokens_from word_of piece_on_line lexemes_from is_omp printed
of_a_variable = refl

-- in a block all stay
in_a_block : left (codes "int main(void) { uint64_t f(uint64_t); }")
    ≡ own (codes "int main(void) { uint64_t f(uint64_t); }")
unfolding number_of hex_number_of number_piece sign_one sign_two sign_three changing_sign sign_at format_at piece_at
    comment_end_from is_include after tokens_from word_of piece_on_line lexemes_from is_omp printed
in_a_block = refl

-- so does what has brackets in brackets that do not close
one_bracket : left (codes "void f(uint64_t (*g)(void)); void h(uint64_t (*g)(void) { }")
    ≡ own (codes "void h(uint64_t (*g)(void) { }")
unfolding number_of hex_number_of number_piece sign_one sign_two sign_three changing_sign sign_at format_at piece_at
    comment_end_from is_include after tokens_from word_of piece_on_line lexemes_from is_omp printed
one_bracket = refl

read_so : tokens (
    codes "uint64_t f(uint64_t); uint64_t x; uint64_t f(uint64_t n) { return n + 1; } " ++
    codes "int main(void) { x = f(2); }")
    ≡ tokens (codes "uint64_t x; uint64_t f(uint64_t n) { return n + 1; } int main(void) { x = f(2); }")
unfolding called defined parameters arguments index_len number_of hex_number_of number_piece sign_one sign_two
    sign_three changing_sign sign_at format_at piece_at comment_end_from is_include after tokens_from word_of is_omp
    expression line_from clauses_from worked in_blocks typed printed undefined all_read initialized in_full run
    enter breaks wrong sort_of advance place_code first_broken first_wrong kind_of holds is_atomic is_target
    depth_of collapse_from uses_of uses_from line_fault line_breaks line_wrong line_enter line_advance line_place
    line_first_broken line_first_wrong piece_on_line lexemes_from
read_so = refl

-- ---- semicolons

behind_a_block : left (codes "int main(void) { { x = 1; }; x = 2;; ; if (x) { x = 3; }; }; ;")
    ≡ own (codes "int main(void) { { x = 1; } { } x = 2; { } { } if (x) { x = 3; } { } }")
unfolding number_of hex_number_of number_piece sign_one sign_two sign_three changing_sign sign_at format_at piece_at
    comment_end_from is_include after tokens_from word_of piece_on_line lexemes_from is_omp printed
behind_a_block = refl

-- a body, and the head of a loop, stay
a_body : left (codes "int main(void) { while (x); if (x) ; else ; for (;;) { } }")
    ≡ own (codes "int main(void) { while (x); if (x) ; else ; for (;;) { } }")
unfolding number_of hex_number_of number_piece sign_one sign_two sign_three changing_sign sign_at format_at piece_at
    comment_end_from is_include after tokens_from word_of piece_on_line lexemes_from is_omp printed
a_body = refl

-- that of a declaration stays
behind_a_list : left (codes "uint64_t A[2] = { 1, 2 }; struct s { uint64_t x; }; int main(void) { }")
    ≡ own (codes "uint64_t A[2] = { 1, 2 }; struct s { uint64_t x; }; int main(void) { }")
unfolding number_of hex_number_of number_piece sign_one sign_two sign_three changing_sign sign_at format_at piece_at
    comment_end_from is_include after tokens_from word_of piece_on_line lexemes_from is_omp printed
behind_a_list = refl

abbrev lines : List (List ℕ) → List ℕ
lines [] = []
lines (l ∷ ls) = l ++ (10 ∷ lines ls)

-- a macro that is a block
behind_a_macro : fault_in (lines (codes "#define SET(v) { x = (v); }" ∷
    codes "uint64_t x; int main(void) { SET(1); SET(x + 2); }" ∷ []))
    ≡ None
unfolding called defined parameters arguments index_len number_of hex_number_of number_piece sign_one sign_two
    sign_three changing_sign sign_at format_at piece_at comment_end_from is_include after tokens_from word_of is_omp
    expression line_from clauses_from worked in_blocks typed printed undefined all_read initialized in_full run
    enter breaks wrong sort_of advance place_code first_broken first_wrong kind_of holds is_atomic is_target
    depth_of collapse_from uses_of uses_from line_fault line_breaks line_wrong line_enter line_advance line_place
    line_first_broken line_first_wrong piece_on_line lexemes_from
behind_a_macro = refl

are_read : fault_in (codes "uint64_t x; int main(void) { { x = 1; }; if (x) { x = 3; }; }") ≡ None
unfolding called defined parameters arguments index_len number_of hex_number_of number_piece sign_one sign_two
    sign_three changing_sign sign_at format_at piece_at comment_end_from is_include after tokens_from word_of is_omp
    expression line_from clauses_from worked in_blocks typed printed undefined all_read initialized in_full run
    enter breaks wrong sort_of advance place_code first_broken first_wrong kind_of holds is_atomic is_target
    depth_of collapse_from uses_of uses_from line_fault line_breaks line_wrong line_enter line_advance line_place
    line_first_broken line_first_wrong piece_on_line lexemes_from
are_read = refl
