-- What is answered of sources whose arrays main allocates, by computation.
use Rattle.c_grammar.specs.Clauses.{clauses_from}
use Rattle.std.proofs.Common.{◌≡◌, ℕ, List, [], ◌∷◌, ◌++◌, map, Option, Some, None, refl}
use Rattle.std.specs.Prelude.{codes}
use Rattle.base.specs.declared.fault.TextFault.{TextFault}
use Rattle.base.specs.declared.fault.ReadCode.{ReadCode as Code}
use Rattle.base.specs.declared.fault.ReadCode.TheVariants.{Unexpected, AlreadyDeclared, BadLength, Undeclared}
use Rattle.c_tokens.specs.Piece.{number_of, hex_number_of, number_piece, sign_one, sign_two, sign_three, changing_sign, sign_at, piece_at, comment_end_from, is_include}
use Rattle.c_tokens.specs.Text.{after, tokens_from}
use Rattle.c_grammar.specs.Lexeme.{word_of, piece_on_line, lexemes_from}
use Rattle.c_grammar.specs.Lines.{is_omp, kind_of, holds, is_atomic, is_target, depth_of, collapse_from, uses_of, uses_from, line_fault}
use Rattle.c_grammar.specs.LineRules.{line_breaks, line_wrong, line_enter}
use Rattle.c_grammar.specs.LineMachine.{line_advance, line_place, line_first_broken, line_first_wrong}
use Rattle.c_grammar.specs.Expressions.{expression}
use Rattle.c_grammar.specs.LineForms.{line_from}
use Rattle.c_grammar.specs.Constants.{worked, undefined}
use Rattle.c_grammar.specs.Changes.{in_full}
use Rattle.c_grammar.specs.Allocations.{all_read}
use Rattle.c_grammar.specs.Initial.{initialized}
use Rattle.c_grammar.specs.Blocks.{typed, in_blocks}
use Rattle.c_grammar.specs.Prints.{printed}
use Rattle.c_grammar.specs.Terminal.{Terminal}
use Rattle.c_grammar.specs.Machine.{run}
use Rattle.c_grammar.specs.Rules.{enter, breaks, wrong, sort_of}
use Rattle.c_grammar.specs.Program.{advance, place_code, first_broken, first_wrong}
use Rattle.c_grammar.specs.Source.{fault_in, items_of}

abbrev at : Code → ℕ → ℕ → Option TextFault
at code line column = Some (record { code = code; line = line; column = column })

abbrev lines : List (List ℕ) → List ℕ
lines [] = []
lines (l ∷ ls) = l ++ (10 ∷ lines ls)

abbrev tokens : List ℕ → List Terminal
tokens text = map (λ i. i.terminal) (items_of text)

one_array : tokens (codes "uint64_t s; int main() { uint64_t *a = malloc(4 * sizeof(uint64_t)); a[0] = s; free(a); return 0; }") ≡ tokens (codes "uint64_t s; uint64_t a[4]; int main(void) { { } a[0] = s; { } }")
unfolding number_of hex_number_of number_piece sign_one sign_two sign_three changing_sign sign_at piece_at comment_end_from is_include after tokens_from word_of is_omp expression line_from clauses_from worked in_blocks typed printed undefined all_read initialized in_full run enter breaks wrong sort_of advance place_code first_broken first_wrong kind_of holds is_atomic is_target depth_of collapse_from uses_of uses_from line_fault line_breaks line_wrong line_enter line_advance line_place line_first_broken line_first_wrong piece_on_line lexemes_from
one_array = refl

spellings : tokens (lines (codes "#define N 8" ∷ codes "int main() { uint64_t *a = (uint64_t *)malloc(sizeof(uint64_t) * N); size_t *b = malloc((N + 2) * 3 * sizeof(*b)); unsigned long *c = (unsigned long *) malloc(sizeof *c * (N / 4)); uint64_t *d = calloc(N + 1, sizeof(uint64_t)); uint64_t *e = calloc(2 * N, sizeof *e); b[0] = a[0]; free(b); free(a); free(c); }" ∷ [])) ≡ tokens (codes "uint64_t a[8]; uint64_t b[30]; uint64_t c[2]; uint64_t d[9]; uint64_t e[16]; int main(void) { { } { } { } { } { } b[0] = a[0]; { } { } { } }")
unfolding number_of hex_number_of number_piece sign_one sign_two sign_three changing_sign sign_at piece_at comment_end_from is_include after tokens_from word_of is_omp expression line_from clauses_from worked in_blocks typed printed undefined all_read initialized in_full run enter breaks wrong sort_of advance place_code first_broken first_wrong kind_of holds is_atomic is_target depth_of collapse_from uses_of uses_from line_fault line_breaks line_wrong line_enter line_advance line_place line_first_broken line_first_wrong piece_on_line lexemes_from
spellings = refl

with_lines : tokens (lines (codes "int main() {" ∷ codes "uint64_t *a = malloc(4 * sizeof(uint64_t));" ∷ codes "#pragma omp target enter data map(to: a[0:4])" ∷ codes "free(a);" ∷ codes "#pragma omp taskwait" ∷ codes "}" ∷ [])) ≡ tokens (lines (codes "uint64_t a[4]; int main() { { }" ∷ codes "#pragma omp target enter data map(to: a[0:4])" ∷ codes "{ }" ∷ codes "#pragma omp taskwait" ∷ codes "}" ∷ []))
unfolding number_of hex_number_of number_piece sign_one sign_two sign_three changing_sign sign_at piece_at comment_end_from is_include after tokens_from word_of is_omp expression line_from clauses_from worked in_blocks typed printed undefined all_read initialized in_full run enter breaks wrong sort_of advance place_code first_broken first_wrong kind_of holds is_atomic is_target depth_of collapse_from uses_of uses_from line_fault line_breaks line_wrong line_enter line_advance line_place line_first_broken line_first_wrong piece_on_line lexemes_from
with_lines = refl

a_sum : fault_in (codes "int main() { uint64_t *a = malloc(2 + 2 * sizeof(uint64_t)); }") ≡ at Unexpected 1 23
unfolding number_of hex_number_of number_piece sign_one sign_two sign_three changing_sign sign_at piece_at comment_end_from is_include after tokens_from word_of is_omp expression line_from clauses_from worked in_blocks typed printed undefined all_read initialized in_full run enter breaks wrong sort_of advance place_code first_broken first_wrong kind_of holds is_atomic is_target depth_of collapse_from uses_of uses_from line_fault line_breaks line_wrong line_enter line_advance line_place line_first_broken line_first_wrong piece_on_line lexemes_from
a_sum = refl

a_sum_of_bytes : fault_in (codes "int main() { uint64_t *a = malloc(2 * sizeof(uint64_t) + 8); }") ≡ at Unexpected 1 23
unfolding number_of hex_number_of number_piece sign_one sign_two sign_three changing_sign sign_at piece_at comment_end_from is_include after tokens_from word_of is_omp expression line_from clauses_from worked in_blocks typed printed undefined all_read initialized in_full run enter breaks wrong sort_of advance place_code first_broken first_wrong kind_of holds is_atomic is_target depth_of collapse_from uses_of uses_from line_fault line_breaks line_wrong line_enter line_advance line_place line_first_broken line_first_wrong piece_on_line lexemes_from
a_sum_of_bytes = refl

size_of_another : fault_in (codes "int main() { uint64_t *a = malloc(4 * sizeof(*b)); }") ≡ at Unexpected 1 23
unfolding number_of hex_number_of number_piece sign_one sign_two sign_three changing_sign sign_at piece_at comment_end_from is_include after tokens_from word_of is_omp expression line_from clauses_from worked in_blocks typed printed undefined all_read initialized in_full run enter breaks wrong sort_of advance place_code first_broken first_wrong kind_of holds is_atomic is_target depth_of collapse_from uses_of uses_from line_fault line_breaks line_wrong line_enter line_advance line_place line_first_broken line_first_wrong piece_on_line lexemes_from
size_of_another = refl

size_of_the_pointer : fault_in (codes "int main() { uint64_t *a = malloc(4 * sizeof(a)); }") ≡ at Unexpected 1 23
unfolding number_of hex_number_of number_piece sign_one sign_two sign_three changing_sign sign_at piece_at comment_end_from is_include after tokens_from word_of is_omp expression line_from clauses_from worked in_blocks typed printed undefined all_read initialized in_full run enter breaks wrong sort_of advance place_code first_broken first_wrong kind_of holds is_atomic is_target depth_of collapse_from uses_of uses_from line_fault line_breaks line_wrong line_enter line_advance line_place line_first_broken line_first_wrong piece_on_line lexemes_from
size_of_the_pointer = refl

no_number : fault_in (codes "uint64_t n; int main() { uint64_t *a = malloc(n * sizeof(uint64_t)); }") ≡ at Unexpected 1 35
unfolding number_of hex_number_of number_piece sign_one sign_two sign_three changing_sign sign_at piece_at comment_end_from is_include after tokens_from word_of is_omp expression line_from clauses_from worked in_blocks typed printed undefined all_read initialized in_full run enter breaks wrong sort_of advance place_code first_broken first_wrong kind_of holds is_atomic is_target depth_of collapse_from uses_of uses_from line_fault line_breaks line_wrong line_enter line_advance line_place line_first_broken line_first_wrong piece_on_line lexemes_from
no_number = refl

no_cells : fault_in (codes "int main() { uint64_t *a = malloc(0 * sizeof(uint64_t)); }") ≡ at BadLength 1 35
unfolding number_of hex_number_of number_piece sign_one sign_two sign_three changing_sign sign_at piece_at comment_end_from is_include after tokens_from word_of is_omp expression line_from clauses_from worked in_blocks typed printed undefined all_read initialized in_full run enter breaks wrong sort_of advance place_code first_broken first_wrong kind_of holds is_atomic is_target depth_of collapse_from uses_of uses_from line_fault line_breaks line_wrong line_enter line_advance line_place line_first_broken line_first_wrong piece_on_line lexemes_from
no_cells = refl

too_large : fault_in (codes "int main() { uint64_t *a = malloc(4294967296 * 4294967296 * sizeof(uint64_t)); }") ≡ at Unexpected 1 23
unfolding number_of hex_number_of number_piece sign_one sign_two sign_three changing_sign sign_at piece_at comment_end_from is_include after tokens_from word_of is_omp expression line_from clauses_from worked in_blocks typed printed undefined all_read initialized in_full run enter breaks wrong sort_of advance place_code first_broken first_wrong kind_of holds is_atomic is_target depth_of collapse_from uses_of uses_from line_fault line_breaks line_wrong line_enter line_advance line_place line_first_broken line_first_wrong piece_on_line lexemes_from
too_large = refl

in_a_block : fault_in (codes "int main() { { uint64_t *a = malloc(4 * sizeof(uint64_t)); } }") ≡ at Unexpected 1 25
unfolding number_of hex_number_of number_piece sign_one sign_two sign_three changing_sign sign_at piece_at comment_end_from is_include after tokens_from word_of is_omp expression line_from clauses_from worked in_blocks typed printed undefined all_read initialized in_full run enter breaks wrong sort_of advance place_code first_broken first_wrong kind_of holds is_atomic is_target depth_of collapse_from uses_of uses_from line_fault line_breaks line_wrong line_enter line_advance line_place line_first_broken line_first_wrong piece_on_line lexemes_from
in_a_block = refl

in_a_head : fault_in (codes "int main() { uint64_t *a = malloc(4 * sizeof(uint64_t)); for (uint64_t i = 0; free(a); i < 4; i += 1) { } }") ≡ at Unexpected 1 79
unfolding number_of hex_number_of number_piece sign_one sign_two sign_three changing_sign sign_at piece_at comment_end_from is_include after tokens_from word_of is_omp expression line_from clauses_from worked in_blocks typed printed undefined all_read initialized in_full run enter breaks wrong sort_of advance place_code first_broken first_wrong kind_of holds is_atomic is_target depth_of collapse_from uses_of uses_from line_fault line_breaks line_wrong line_enter line_advance line_place line_first_broken line_first_wrong piece_on_line lexemes_from
in_a_head = refl

before_main : fault_in (codes "uint64_t *a = malloc(4 * sizeof(uint64_t)); int main() { }") ≡ at Unexpected 1 10
unfolding number_of hex_number_of number_piece sign_one sign_two sign_three changing_sign sign_at piece_at comment_end_from is_include after tokens_from word_of is_omp expression line_from clauses_from worked in_blocks typed printed undefined all_read initialized in_full run enter breaks wrong sort_of advance place_code first_broken first_wrong kind_of holds is_atomic is_target depth_of collapse_from uses_of uses_from line_fault line_breaks line_wrong line_enter line_advance line_place line_first_broken line_first_wrong piece_on_line lexemes_from
before_main = refl

used_before : fault_in (codes "int main() { a[0] = 1; uint64_t *a = malloc(4 * sizeof(uint64_t)); }") ≡ at Undeclared 1 14
unfolding number_of hex_number_of number_piece sign_one sign_two sign_three changing_sign sign_at piece_at comment_end_from is_include after tokens_from word_of is_omp expression line_from clauses_from worked in_blocks typed printed undefined all_read initialized in_full run enter breaks wrong sort_of advance place_code first_broken first_wrong kind_of holds is_atomic is_target depth_of collapse_from uses_of uses_from line_fault line_breaks line_wrong line_enter line_advance line_place line_first_broken line_first_wrong piece_on_line lexemes_from
used_before = refl

allocated_twice : fault_in (codes "int main() { uint64_t *a = malloc(4 * sizeof(uint64_t)); uint64_t *a = malloc(4 * sizeof(uint64_t)); }") ≡ at AlreadyDeclared 1 68
unfolding number_of hex_number_of number_piece sign_one sign_two sign_three changing_sign sign_at piece_at comment_end_from is_include after tokens_from word_of is_omp expression line_from clauses_from worked in_blocks typed printed undefined all_read initialized in_full run enter breaks wrong sort_of advance place_code first_broken first_wrong kind_of holds is_atomic is_target depth_of collapse_from uses_of uses_from line_fault line_breaks line_wrong line_enter line_advance line_place line_first_broken line_first_wrong piece_on_line lexemes_from
allocated_twice = refl

used_behind_free : fault_in (codes "int main() { uint64_t *a = malloc(4 * sizeof(uint64_t)); free(a); a[0] = 1; }") ≡ at Undeclared 1 58
unfolding number_of hex_number_of number_piece sign_one sign_two sign_three changing_sign sign_at piece_at comment_end_from is_include after tokens_from word_of is_omp expression line_from clauses_from worked in_blocks typed printed undefined all_read initialized in_full run enter breaks wrong sort_of advance place_code first_broken first_wrong kind_of holds is_atomic is_target depth_of collapse_from uses_of uses_from line_fault line_breaks line_wrong line_enter line_advance line_place line_first_broken line_first_wrong piece_on_line lexemes_from
used_behind_free = refl

freed_twice : fault_in (codes "int main() { uint64_t *a = malloc(4 * sizeof(uint64_t)); free(a); free(a); }") ≡ at Undeclared 1 58
unfolding number_of hex_number_of number_piece sign_one sign_two sign_three changing_sign sign_at piece_at comment_end_from is_include after tokens_from word_of is_omp expression line_from clauses_from worked in_blocks typed printed undefined all_read initialized in_full run enter breaks wrong sort_of advance place_code first_broken first_wrong kind_of holds is_atomic is_target depth_of collapse_from uses_of uses_from line_fault line_breaks line_wrong line_enter line_advance line_place line_first_broken line_first_wrong piece_on_line lexemes_from
freed_twice = refl

free_of_a_global : fault_in (codes "uint64_t a[4]; int main() { free(a); }") ≡ at Undeclared 1 29
unfolding number_of hex_number_of number_piece sign_one sign_two sign_three changing_sign sign_at piece_at comment_end_from is_include after tokens_from word_of is_omp expression line_from clauses_from worked in_blocks typed printed undefined all_read initialized in_full run enter breaks wrong sort_of advance place_code first_broken first_wrong kind_of holds is_atomic is_target depth_of collapse_from uses_of uses_from line_fault line_breaks line_wrong line_enter line_advance line_place line_first_broken line_first_wrong piece_on_line lexemes_from
free_of_a_global = refl

under_a_target : fault_in (lines (codes "int main() { uint64_t *a = malloc(4 * sizeof(uint64_t));" ∷ codes "#pragma omp target" ∷ codes "free(a);" ∷ codes "{ }" ∷ codes "}" ∷ [])) ≡ None
unfolding number_of hex_number_of number_piece sign_one sign_two sign_three changing_sign sign_at piece_at comment_end_from is_include after tokens_from word_of is_omp expression line_from clauses_from worked in_blocks typed printed undefined all_read initialized in_full run enter breaks wrong sort_of advance place_code first_broken first_wrong kind_of holds is_atomic is_target depth_of collapse_from uses_of uses_from line_fault line_breaks line_wrong line_enter line_advance line_place line_first_broken line_first_wrong piece_on_line lexemes_from
under_a_target = refl

before_else : fault_in (codes "int main() { uint64_t *a = malloc(4 * sizeof(uint64_t)); if (1) { } free(a); else { } }") ≡ at Unexpected 1 78
unfolding number_of hex_number_of number_piece sign_one sign_two sign_three changing_sign sign_at piece_at comment_end_from is_include after tokens_from word_of is_omp expression line_from clauses_from worked in_blocks typed printed undefined all_read initialized in_full run enter breaks wrong sort_of advance place_code first_broken first_wrong kind_of holds is_atomic is_target depth_of collapse_from uses_of uses_from line_fault line_breaks line_wrong line_enter line_advance line_place line_first_broken line_first_wrong piece_on_line lexemes_from
before_else = refl

variables : fault_in (codes "uint64_t malloc; uint64_t free[4]; uint64_t calloc; int main() { malloc = free[0]; calloc = malloc * 2; }") ≡ None
unfolding number_of hex_number_of number_piece sign_one sign_two sign_three changing_sign sign_at piece_at comment_end_from is_include after tokens_from word_of is_omp expression line_from clauses_from worked in_blocks typed printed undefined all_read initialized in_full run enter breaks wrong sort_of advance place_code first_broken first_wrong kind_of holds is_atomic is_target depth_of collapse_from uses_of uses_from line_fault line_breaks line_wrong line_enter line_advance line_place line_first_broken line_first_wrong piece_on_line lexemes_from
variables = refl
