-- What is answered of sources with structs, and what they are written out as, by computation.
use Rattle.std.proofs.Common.{◌≡◌, ℕ, List, [], ◌∷◌, ◌++◌, map, Option, Some, None, refl}
use Rattle.std.specs.Prelude.{codes}
use Rattle.base.specs.declared.fault.TextFault.{TextFault}
use Rattle.base.specs.declared.fault.ReadCode.{ReadCode as Code}
use Rattle.base.specs.declared.fault.ReadCode.TheVariants.{UnknownByte, Unexpected, Undeclared}
use Rattle.c_tokens.specs.Piece.{number_of, hex_number_of, number_piece, sign_one, sign_two, sign_three, changing_sign, sign_at, format_at, piece_at, comment_end_from, is_include}
use Rattle.c_tokens.specs.Text.{after, tokens_from}
use Rattle.c_grammar.specs.Lexeme.{word_of, piece_on_line, lexemes_from}
use Rattle.c_grammar.specs.Lines.{is_omp, kind_of, holds, is_atomic, is_target, depth_of, collapse_from, uses_of, uses_from, line_fault}
use Rattle.c_grammar.specs.LineRules.{line_breaks, line_wrong, line_enter}
use Rattle.c_grammar.specs.LineMachine.{line_advance, line_place, line_first_broken, line_first_wrong}
use Rattle.c_grammar.specs.Expressions.{expression}
use Rattle.c_grammar.specs.Functions.{called, defined, arguments, index_len}
use Rattle.c_grammar.specs.FunctionHeads.{parameters}
use Rattle.c_grammar.specs.Grids.{index_from}
use Rattle.c_grammar.specs.LineForms.{line_from}
use Rattle.c_grammar.specs.Constants.{worked, undefined}
use Rattle.c_grammar.specs.Changes.{in_full}
use Rattle.c_grammar.specs.Allocations.{all_read}
use Rattle.c_grammar.specs.Clauses.{clauses_from}
use Rattle.c_grammar.specs.Initial.{initialized}
use Rattle.c_grammar.specs.Blocks.{typed, in_blocks}
use Rattle.c_grammar.specs.Prints.{printed}
use Rattle.c_grammar.specs.Machine.{run}
use Rattle.c_grammar.specs.Rules.{enter, breaks, wrong, sort_of}
use Rattle.c_grammar.specs.Program.{advance, place_code, first_broken, first_wrong}
use Rattle.c_grammar.specs.Terminal.{Terminal}
use Rattle.c_grammar.specs.Source.{fault_in, items_of}

abbrev at : Code → ℕ → ℕ → Option TextFault
at code line column = Some (record { code = code; line = line; column = column })

abbrev lines : List (List ℕ) → List ℕ
lines [] = []
lines (l ∷ ls) = l ++ (10 ∷ lines ls)

abbrev tokens : List (List ℕ) → List Terminal
tokens ls = map (λ i. i.terminal) (items_of (lines ls))

abbrev fault : List (List ℕ) → Option TextFault
fault ls = fault_in (lines ls)

an_array : tokens (codes "struct T { uint64_t a, b; uint64_t c; };" ∷
    codes "struct T A[8];" ∷
    codes "int main() {" ∷
    codes "A[3].b = A[2].a + A[1].c; }" ∷ [])
    ≡ tokens (codes "uint64_t A[8][3];" ∷
    codes "int main() {" ∷
    codes "A[3][1] = A[2][0] + A[1][2]; }" ∷ [])
unfolding index_from called defined parameters arguments index_len number_of hex_number_of number_piece sign_one sign_two sign_three changing_sign sign_at format_at piece_at comment_end_from is_include after tokens_from word_of is_omp expression line_from clauses_from worked in_blocks typed printed undefined all_read initialized in_full run enter breaks wrong sort_of advance place_code first_broken first_wrong kind_of holds is_atomic is_target depth_of collapse_from uses_of uses_from line_fault line_breaks line_wrong line_enter line_advance line_place line_first_broken line_first_wrong piece_on_line lexemes_from
an_array = refl

a_name_of_its_own : tokens (codes "typedef struct { uint64_t a, b; } U; typedef struct T { unsigned long c; } V; typedef struct T W;" ∷
    codes "static U A[2 * 4]; struct T B[8]; V C[8]; W D[8];" ∷
    codes "int main() {" ∷
    codes "A[B[1].c % 8].b = C[0].c + D[0].c; }" ∷ [])
    ≡ tokens (codes "static uint64_t A[2 * 4][2]; uint64_t B[8][1]; uint64_t C[8][1]; uint64_t D[8][1];" ∷
    codes "int main() {" ∷
    codes "A[B[1][0] % 8][1] = C[0][0] + D[0][0]; }" ∷ [])
unfolding index_from called defined parameters arguments index_len number_of hex_number_of number_piece sign_one sign_two sign_three changing_sign sign_at format_at piece_at comment_end_from is_include after tokens_from word_of is_omp expression line_from clauses_from worked in_blocks typed printed undefined all_read initialized in_full run enter breaks wrong sort_of advance place_code first_broken first_wrong kind_of holds is_atomic is_target depth_of collapse_from uses_of uses_from line_fault line_breaks line_wrong line_enter line_advance line_place line_first_broken line_first_wrong piece_on_line lexemes_from
a_name_of_its_own = refl

one : tokens (codes "struct T { uint64_t a, b; }; struct T s;" ∷
    codes "int main() {" ∷
    codes "s.b = s.a; }" ∷ [])
    ≡ tokens (codes "uint64_t s[1][2];" ∷
    codes "int main() {" ∷
    codes "s[0][1] = s[0][0]; }" ∷ [])
unfolding index_from called defined parameters arguments index_len number_of hex_number_of number_piece sign_one sign_two sign_three changing_sign sign_at format_at piece_at comment_end_from is_include after tokens_from word_of is_omp expression line_from clauses_from worked in_blocks typed printed undefined all_read initialized in_full run enter breaks wrong sort_of advance place_code first_broken first_wrong kind_of holds is_atomic is_target depth_of collapse_from uses_of uses_from line_fault line_breaks line_wrong line_enter line_advance line_place line_first_broken line_first_wrong piece_on_line lexemes_from
one = refl

of_functions : tokens (codes "typedef struct { uint64_t a, b; } U; U A[8]; U B[8];" ∷
    codes "void f(U *p, const U *restrict q, U r[], U s[8]) { for (uint64_t i = 0; i < 8; i++) { p[i].a = q[i].b; } p->b = r->a + s[1].a; }" ∷
    codes "int main() {" ∷
    codes "f(A, B, B, B); }" ∷ [])
    ≡ tokens (codes "uint64_t A[8][2]; uint64_t B[8][2];" ∷
    codes "void f(uint64_t p[][2], const uint64_t q[][2], uint64_t r[][2], uint64_t s[8][2]) { for (uint64_t i = 0; i < 8; i++) { p[i][0] = q[i][1]; } p[0][1] = r[0][0] + s[1][0]; }" ∷
    codes "int main() {" ∷
    codes "f(A, B, B, B); }" ∷ [])
unfolding index_from called defined parameters arguments index_len number_of hex_number_of number_piece sign_one sign_two sign_three changing_sign sign_at format_at piece_at comment_end_from is_include after tokens_from word_of is_omp expression line_from clauses_from worked in_blocks typed printed undefined all_read initialized in_full run enter breaks wrong sort_of advance place_code first_broken first_wrong kind_of holds is_atomic is_target depth_of collapse_from uses_of uses_from line_fault line_breaks line_wrong line_enter line_advance line_place line_first_broken line_first_wrong piece_on_line lexemes_from
of_functions = refl

-- the sections of an array of structs are rows
sections : tokens (codes "struct T { uint64_t a, b; }; struct T A[8];" ∷
    codes "int main() {" ∷
    codes "#pragma omp target map(tofrom: A[0:4])" ∷
    codes "{ A[1].b = 2; } }" ∷ [])
    ≡ tokens (codes "uint64_t A[8][2];" ∷
    codes "int main() {" ∷
    codes "#pragma omp target map(tofrom: A[0:4])" ∷
    codes "{ A[1][1] = 2; } }" ∷ [])
unfolding index_from called defined parameters arguments index_len number_of hex_number_of number_piece sign_one sign_two sign_three changing_sign sign_at format_at piece_at comment_end_from is_include after tokens_from word_of is_omp expression line_from clauses_from worked in_blocks typed printed undefined all_read initialized in_full run enter breaks wrong sort_of advance place_code first_broken first_wrong kind_of holds is_atomic is_target depth_of collapse_from uses_of uses_from line_fault line_breaks line_wrong line_enter line_advance line_place line_first_broken line_first_wrong piece_on_line lexemes_from
sections = refl

a_macro : tokens (codes "#define B(i) A[i].b" ∷
    codes "struct T { uint64_t a, b; }; struct T A[8];" ∷
    codes "int main() {" ∷
    codes "B(1) += 2; }" ∷ [])
    ≡ tokens (codes "uint64_t A[8][2];" ∷
    codes "int main() {" ∷
    codes "A[1][1] += 2; }" ∷ [])
unfolding index_from called defined parameters arguments index_len number_of hex_number_of number_piece sign_one sign_two sign_three changing_sign sign_at format_at piece_at comment_end_from is_include after tokens_from word_of is_omp expression line_from clauses_from worked in_blocks typed printed undefined all_read initialized in_full run enter breaks wrong sort_of advance place_code first_broken first_wrong kind_of holds is_atomic is_target depth_of collapse_from uses_of uses_from line_fault line_breaks line_wrong line_enter line_advance line_place line_first_broken line_first_wrong piece_on_line lexemes_from
a_macro = refl

no_struct : fault (codes "int main() {" ∷
    codes "uint64_t x; x.a = 1; }" ∷ []) ≡ at UnknownByte 2 14
unfolding index_from called defined parameters arguments index_len number_of hex_number_of number_piece sign_one sign_two sign_three changing_sign sign_at format_at piece_at comment_end_from is_include after tokens_from word_of is_omp expression line_from clauses_from worked in_blocks typed printed undefined all_read initialized in_full run enter breaks wrong sort_of advance place_code first_broken first_wrong kind_of holds is_atomic is_target depth_of collapse_from uses_of uses_from line_fault line_breaks line_wrong line_enter line_advance line_place line_first_broken line_first_wrong piece_on_line lexemes_from
no_struct = refl

a_fraction : fault (codes "int main() {" ∷
    codes "print(1.5); }" ∷ []) ≡ at UnknownByte 2 8
unfolding index_from called defined parameters arguments index_len number_of hex_number_of number_piece sign_one sign_two sign_three changing_sign sign_at format_at piece_at comment_end_from is_include after tokens_from word_of is_omp expression line_from clauses_from worked in_blocks typed printed undefined all_read initialized in_full run enter breaks wrong sort_of advance place_code first_broken first_wrong kind_of holds is_atomic is_target depth_of collapse_from uses_of uses_from line_fault line_breaks line_wrong line_enter line_advance line_place line_first_broken line_first_wrong piece_on_line lexemes_from
a_fraction = refl

no_member : fault (codes "struct T { uint64_t a; }; struct T A[8];" ∷
    codes "int main() {" ∷
    codes "A[1].b = 1; }" ∷ []) ≡ at Unexpected 3 1
unfolding index_from called defined parameters arguments index_len number_of hex_number_of number_piece sign_one sign_two sign_three changing_sign sign_at format_at piece_at comment_end_from is_include after tokens_from word_of is_omp expression line_from clauses_from worked in_blocks typed printed undefined all_read initialized in_full run enter breaks wrong sort_of advance place_code first_broken first_wrong kind_of holds is_atomic is_target depth_of collapse_from uses_of uses_from line_fault line_breaks line_wrong line_enter line_advance line_place line_first_broken line_first_wrong piece_on_line lexemes_from
no_member = refl

on_a_line : fault (codes "struct T { uint64_t a; }; struct T A[8];" ∷
    codes "int main() {" ∷
    codes "#pragma omp target map(tofrom: A[0:1].a)" ∷
    codes "{ A[0].a = 1; } }" ∷ []) ≡ at UnknownByte 3 38
unfolding index_from called defined parameters arguments index_len number_of hex_number_of number_piece sign_one sign_two sign_three changing_sign sign_at format_at piece_at comment_end_from is_include after tokens_from word_of is_omp expression line_from clauses_from worked in_blocks typed printed undefined all_read initialized in_full run enter breaks wrong sort_of advance place_code first_broken first_wrong kind_of holds is_atomic is_target depth_of collapse_from uses_of uses_from line_fault line_breaks line_wrong line_enter line_advance line_place line_first_broken line_first_wrong piece_on_line lexemes_from
on_a_line = refl

another_type : fault (codes "struct T { int a; }; struct T A[8];" ∷
    codes "int main() {" ∷
    codes "A[1].a = 1; }" ∷ []) ≡ at Unexpected 1 1
unfolding index_from called defined parameters arguments index_len number_of hex_number_of number_piece sign_one sign_two sign_three changing_sign sign_at format_at piece_at comment_end_from is_include after tokens_from word_of is_omp expression line_from clauses_from worked in_blocks typed printed undefined all_read initialized in_full run enter breaks wrong sort_of advance place_code first_broken first_wrong kind_of holds is_atomic is_target depth_of collapse_from uses_of uses_from line_fault line_breaks line_wrong line_enter line_advance line_place line_first_broken line_first_wrong piece_on_line lexemes_from
another_type = refl

defined_twice : fault (codes "struct T { uint64_t a; }; struct T { uint64_t a; }; struct T A[8];" ∷
    codes "int main() {" ∷
    codes "A[1].a = 1; }" ∷ []) ≡ at Unexpected 1 1
unfolding index_from called defined parameters arguments index_len number_of hex_number_of number_piece sign_one sign_two sign_three changing_sign sign_at format_at piece_at comment_end_from is_include after tokens_from word_of is_omp expression line_from clauses_from worked in_blocks typed printed undefined all_read initialized in_full run enter breaks wrong sort_of advance place_code first_broken first_wrong kind_of holds is_atomic is_target depth_of collapse_from uses_of uses_from line_fault line_breaks line_wrong line_enter line_advance line_place line_first_broken line_first_wrong piece_on_line lexemes_from
defined_twice = refl

declared_otherwise : fault (codes "struct T { uint64_t a, b; }; struct U { uint64_t b, a; }; struct T A[8];" ∷
    codes "void f(struct U *A) { A[0].a = 1; }" ∷
    codes "int main() {" ∷
    codes "A[1].a = 1; }" ∷ []) ≡ at Unexpected 1 1
unfolding index_from called defined parameters arguments index_len number_of hex_number_of number_piece sign_one sign_two sign_three changing_sign sign_at format_at piece_at comment_end_from is_include after tokens_from word_of is_omp expression line_from clauses_from worked in_blocks typed printed undefined all_read initialized in_full run enter breaks wrong sort_of advance place_code first_broken first_wrong kind_of holds is_atomic is_target depth_of collapse_from uses_of uses_from line_fault line_breaks line_wrong line_enter line_advance line_place line_first_broken line_first_wrong piece_on_line lexemes_from
declared_otherwise = refl

in_a_block : fault (codes "struct T { uint64_t a; };" ∷
    codes "int main() {" ∷
    codes "struct T s; s.a = 1; }" ∷ []) ≡ at Undeclared 3 1
unfolding index_from called defined parameters arguments index_len number_of hex_number_of number_piece sign_one sign_two sign_three changing_sign sign_at format_at piece_at comment_end_from is_include after tokens_from word_of is_omp expression line_from clauses_from worked in_blocks typed printed undefined all_read initialized in_full run enter breaks wrong sort_of advance place_code first_broken first_wrong kind_of holds is_atomic is_target depth_of collapse_from uses_of uses_from line_fault line_breaks line_wrong line_enter line_advance line_place line_first_broken line_first_wrong piece_on_line lexemes_from
in_a_block = refl

whole : fault (codes "struct T { uint64_t a; }; struct T A[8];" ∷
    codes "int main() {" ∷
    codes "A[1] = A[2]; }" ∷ []) ≡ at Unexpected 3 1
unfolding index_from called defined parameters arguments index_len number_of hex_number_of number_piece sign_one sign_two sign_three changing_sign sign_at format_at piece_at comment_end_from is_include after tokens_from word_of is_omp expression line_from clauses_from worked in_blocks typed printed undefined all_read initialized in_full run enter breaks wrong sort_of advance place_code first_broken first_wrong kind_of holds is_atomic is_target depth_of collapse_from uses_of uses_from line_fault line_breaks line_wrong line_enter line_advance line_place line_first_broken line_first_wrong piece_on_line lexemes_from
whole = refl

by_value : fault (codes "struct T { uint64_t a; };" ∷
    codes "void f(struct T s) { }" ∷
    codes "int main() {" ∷
    codes "}" ∷ []) ≡ at Unexpected 2 1
unfolding index_from called defined parameters arguments index_len number_of hex_number_of number_piece sign_one sign_two sign_three changing_sign sign_at format_at piece_at comment_end_from is_include after tokens_from word_of is_omp expression line_from clauses_from worked in_blocks typed printed undefined all_read initialized in_full run enter breaks wrong sort_of advance place_code first_broken first_wrong kind_of holds is_atomic is_target depth_of collapse_from uses_of uses_from line_fault line_breaks line_wrong line_enter line_advance line_place line_first_broken line_first_wrong piece_on_line lexemes_from
by_value = refl
