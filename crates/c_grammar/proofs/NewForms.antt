-- What is answered of short sources, by computation.
use Rattle.std.proofs.Common.{◌≡◌, ℕ, List, [], ◌∷◌, ◌++◌, map, Option, Some, None, refl}
use Rattle.std.specs.Prelude.{codes}
use Rattle.base.specs.declared.fault.TextFault.{TextFault}
use Rattle.base.specs.declared.fault.ReadCode.{ReadCode as Code}
use Rattle.base.specs.declared.fault.ReadCode.TheVariants.{OuterAssigned, UnknownByte, AlreadyDeclared, UnknownDirective, UnknownClause, BadBound, BadDevice, Unexpected, Undeclared, BadNumber, BadLength, LoopNameAssigned, BadOperand, TooDeep, NoBody}
use Rattle.c_tokens.specs.Piece.{number_of, hex_number_of, number_piece, sign_one, sign_two, sign_three, changing_sign, sign_at, piece_at, comment_end_from, is_include}
use Rattle.c_tokens.specs.Text.{after, tokens_from}
use Rattle.c_grammar.specs.Lexeme.{Lexeme, word_of, piece_on_line, lexemes_from, lexemes_of}
use Rattle.c_grammar.specs.Lines.{is_omp, kind_of, holds, is_atomic, is_target, depth_of, collapse_from, uses_of, uses_from, line_fault}
use Rattle.c_grammar.specs.LineRules.{line_breaks, line_wrong, line_enter}
use Rattle.c_grammar.specs.LineMachine.{line_advance, line_place, line_first_broken, line_first_wrong}
use Rattle.c_grammar.specs.Expressions.{expression}
use Rattle.c_grammar.specs.LineForms.{line_from, line_in_full}
use Rattle.c_grammar.specs.Constants.{worked, undefined}
use Rattle.c_grammar.specs.Changes.{in_full}
use Rattle.c_grammar.specs.Allocations.{all_read}
use Rattle.c_grammar.specs.Clauses.{clauses_from}
use Rattle.c_grammar.specs.Initial.{initialized}
use Rattle.c_grammar.specs.Blocks.{typed, in_blocks}
use Rattle.c_grammar.specs.Prints.{printed}
use Rattle.c_grammar.specs.Terminal.{Terminal}
use Rattle.c_grammar.specs.Machine.{run}
use Rattle.c_grammar.specs.Rules.{enter, breaks, wrong, sort_of}
use Rattle.c_grammar.specs.Program.{advance, place_code, first_broken, first_wrong}
use Rattle.c_grammar.specs.Source.{fault_in, items_of}

abbrev at : Code → ℕ → ℕ → Option TextFault
at code line column = Some (record { code = code; line = line; column = column })

abbrev lines : List (List ℕ) → List ℕ
lines [] = []
lines (l ∷ ls) = l ++ (10 ∷ lines ls)

return_zero : fault_in (codes "int main() { return 0; }") ≡ None
unfolding number_of hex_number_of number_piece sign_one sign_two sign_three changing_sign sign_at piece_at comment_end_from is_include after tokens_from word_of is_omp expression line_from clauses_from worked in_blocks typed printed undefined all_read initialized in_full run enter breaks wrong sort_of advance place_code first_broken first_wrong kind_of holds is_atomic is_target depth_of collapse_from uses_of uses_from line_fault line_breaks line_wrong line_enter line_advance line_place line_first_broken line_first_wrong piece_on_line lexemes_from
return_zero = refl

return_one : fault_in (codes "int main() { return 1; }") ≡ at Undeclared 1 14
unfolding number_of hex_number_of number_piece sign_one sign_two sign_three changing_sign sign_at piece_at comment_end_from is_include after tokens_from word_of is_omp expression line_from clauses_from worked in_blocks typed printed undefined all_read initialized in_full run enter breaks wrong sort_of advance place_code first_broken first_wrong kind_of holds is_atomic is_target depth_of collapse_from uses_of uses_from line_fault line_breaks line_wrong line_enter line_advance line_place line_first_broken line_first_wrong piece_on_line lexemes_from
return_one = refl

return_early : fault_in (codes "int main() { { return 0; } }") ≡ at Undeclared 1 16
unfolding number_of hex_number_of number_piece sign_one sign_two sign_three changing_sign sign_at piece_at comment_end_from is_include after tokens_from word_of is_omp expression line_from clauses_from worked in_blocks typed printed undefined all_read initialized in_full run enter breaks wrong sort_of advance place_code first_broken first_wrong kind_of holds is_atomic is_target depth_of collapse_from uses_of uses_from line_fault line_breaks line_wrong line_enter line_advance line_place line_first_broken line_first_wrong piece_on_line lexemes_from
return_early = refl

return_in_the_middle : fault_in (codes "int main() { return 0; print(1); }") ≡ at Undeclared 1 14
unfolding number_of hex_number_of number_piece sign_one sign_two sign_three changing_sign sign_at piece_at comment_end_from is_include after tokens_from word_of is_omp expression line_from clauses_from worked in_blocks typed printed undefined all_read initialized in_full run enter breaks wrong sort_of advance place_code first_broken first_wrong kind_of holds is_atomic is_target depth_of collapse_from uses_of uses_from line_fault line_breaks line_wrong line_enter line_advance line_place line_first_broken line_first_wrong piece_on_line lexemes_from
return_in_the_middle = refl

changes : fault_in (codes "uint64_t A[4]; uint64_t x; int main(void) { x += 1; x -= x * 2; x *= 3; x &= 1; x ^= A[x & 1]; x |= 2; x /= 2; x %= 3; x <<= 4; x >>= 5; A[1] += x; A[x & 3] <<= 1; }") ≡ None
unfolding number_of hex_number_of number_piece sign_one sign_two sign_three changing_sign sign_at piece_at comment_end_from is_include after tokens_from word_of is_omp expression line_from clauses_from worked in_blocks typed printed undefined all_read initialized in_full run enter breaks wrong sort_of advance place_code first_broken first_wrong kind_of holds is_atomic is_target depth_of collapse_from uses_of uses_from line_fault line_breaks line_wrong line_enter line_advance line_place line_first_broken line_first_wrong piece_on_line lexemes_from
changes = refl

bumps : fault_in (codes "uint64_t A[4]; uint64_t x; int main(void) { x++; x--; ++x; --x; A[1]++; A[2]--; ++A[x & 1]; --A[0]; }") ≡ None
unfolding number_of hex_number_of number_piece sign_one sign_two sign_three changing_sign sign_at piece_at comment_end_from is_include after tokens_from word_of is_omp expression line_from clauses_from worked in_blocks typed printed undefined all_read initialized in_full run enter breaks wrong sort_of advance place_code first_broken first_wrong kind_of holds is_atomic is_target depth_of collapse_from uses_of uses_from line_fault line_breaks line_wrong line_enter line_advance line_place line_first_broken line_first_wrong piece_on_line lexemes_from
bumps = refl

divided_by_a_name : fault_in (codes "uint64_t x; int main(void) { x /= x; }") ≡ at BadOperand 1 35
unfolding number_of hex_number_of number_piece sign_one sign_two sign_three changing_sign sign_at piece_at comment_end_from is_include after tokens_from word_of is_omp expression line_from clauses_from worked in_blocks typed printed undefined all_read initialized in_full run enter breaks wrong sort_of advance place_code first_broken first_wrong kind_of holds is_atomic is_target depth_of collapse_from uses_of uses_from line_fault line_breaks line_wrong line_enter line_advance line_place line_first_broken line_first_wrong piece_on_line lexemes_from
divided_by_a_name = refl

divided_by_zero : fault_in (codes "uint64_t x; int main(void) { x %= 0; }") ≡ at BadOperand 1 35
unfolding number_of hex_number_of number_piece sign_one sign_two sign_three changing_sign sign_at piece_at comment_end_from is_include after tokens_from word_of is_omp expression line_from clauses_from worked in_blocks typed printed undefined all_read initialized in_full run enter breaks wrong sort_of advance place_code first_broken first_wrong kind_of holds is_atomic is_target depth_of collapse_from uses_of uses_from line_fault line_breaks line_wrong line_enter line_advance line_place line_first_broken line_first_wrong piece_on_line lexemes_from
divided_by_zero = refl

shifted_too_far : fault_in (codes "uint64_t x; int main(void) { x <<= 64; }") ≡ at BadOperand 1 36
unfolding number_of hex_number_of number_piece sign_one sign_two sign_three changing_sign sign_at piece_at comment_end_from is_include after tokens_from word_of is_omp expression line_from clauses_from worked in_blocks typed printed undefined all_read initialized in_full run enter breaks wrong sort_of advance place_code first_broken first_wrong kind_of holds is_atomic is_target depth_of collapse_from uses_of uses_from line_fault line_breaks line_wrong line_enter line_advance line_place line_first_broken line_first_wrong piece_on_line lexemes_from
shifted_too_far = refl

array_bumped : fault_in (codes "uint64_t A[4]; int main(void) { A++; }") ≡ at Undeclared 1 33
unfolding number_of hex_number_of number_piece sign_one sign_two sign_three changing_sign sign_at piece_at comment_end_from is_include after tokens_from word_of is_omp expression line_from clauses_from worked in_blocks typed printed undefined all_read initialized in_full run enter breaks wrong sort_of advance place_code first_broken first_wrong kind_of holds is_atomic is_target depth_of collapse_from uses_of uses_from line_fault line_breaks line_wrong line_enter line_advance line_place line_first_broken line_first_wrong piece_on_line lexemes_from
array_bumped = refl

array_bumped_first : fault_in (codes "uint64_t A[4]; int main(void) { ++A; }") ≡ at Undeclared 1 35
unfolding number_of hex_number_of number_piece sign_one sign_two sign_three changing_sign sign_at piece_at comment_end_from is_include after tokens_from word_of is_omp expression line_from clauses_from worked in_blocks typed printed undefined all_read initialized in_full run enter breaks wrong sort_of advance place_code first_broken first_wrong kind_of holds is_atomic is_target depth_of collapse_from uses_of uses_from line_fault line_breaks line_wrong line_enter line_advance line_place line_first_broken line_first_wrong piece_on_line lexemes_from
array_bumped_first = refl

scalar_indexed : fault_in (codes "uint64_t x; int main(void) { x[0] += 1; }") ≡ at Undeclared 1 30
unfolding number_of hex_number_of number_piece sign_one sign_two sign_three changing_sign sign_at piece_at comment_end_from is_include after tokens_from word_of is_omp expression line_from clauses_from worked in_blocks typed printed undefined all_read initialized in_full run enter breaks wrong sort_of advance place_code first_broken first_wrong kind_of holds is_atomic is_target depth_of collapse_from uses_of uses_from line_fault line_breaks line_wrong line_enter line_advance line_place line_first_broken line_first_wrong piece_on_line lexemes_from
scalar_indexed = refl

loop_name_changed : fault_in (codes "int main(void) { for (uint64_t i = 0; i < 4; i++) { i += 1; } }") ≡ at LoopNameAssigned 1 53
unfolding number_of hex_number_of number_piece sign_one sign_two sign_three changing_sign sign_at piece_at comment_end_from is_include after tokens_from word_of is_omp expression line_from clauses_from worked in_blocks typed printed undefined all_read initialized in_full run enter breaks wrong sort_of advance place_code first_broken first_wrong kind_of holds is_atomic is_target depth_of collapse_from uses_of uses_from line_fault line_breaks line_wrong line_enter line_advance line_place line_first_broken line_first_wrong piece_on_line lexemes_from
loop_name_changed = refl

loop_name_bumped : fault_in (codes "int main(void) { for (uint64_t i = 0; i < 4; i++) { ++i; } }") ≡ at LoopNameAssigned 1 55
unfolding number_of hex_number_of number_piece sign_one sign_two sign_three changing_sign sign_at piece_at comment_end_from is_include after tokens_from word_of is_omp expression line_from clauses_from worked in_blocks typed printed undefined all_read initialized in_full run enter breaks wrong sort_of advance place_code first_broken first_wrong kind_of holds is_atomic is_target depth_of collapse_from uses_of uses_from line_fault line_breaks line_wrong line_enter line_advance line_place line_first_broken line_first_wrong piece_on_line lexemes_from
loop_name_bumped = refl

no_change_in_an_expression : fault_in (codes "uint64_t x; int main(void) { print(x++); }") ≡ at Unexpected 1 37
unfolding number_of hex_number_of number_piece sign_one sign_two sign_three changing_sign sign_at piece_at comment_end_from is_include after tokens_from word_of is_omp expression line_from clauses_from worked in_blocks typed printed undefined all_read initialized in_full run enter breaks wrong sort_of advance place_code first_broken first_wrong kind_of holds is_atomic is_target depth_of collapse_from uses_of uses_from line_fault line_breaks line_wrong line_enter line_advance line_place line_first_broken line_first_wrong piece_on_line lexemes_from
no_change_in_an_expression = refl

steps : fault_in (codes "int main(void) { for (uint64_t i = 0; i < 4; i++) { } for (uint64_t j = 0; j <= 4; ++j) { } for (uint64_t k = 1; k <= 9; k += 2) { } }") ≡ None
unfolding number_of hex_number_of number_piece sign_one sign_two sign_three changing_sign sign_at piece_at comment_end_from is_include after tokens_from word_of is_omp expression line_from clauses_from worked in_blocks typed printed undefined all_read initialized in_full run enter breaks wrong sort_of advance place_code first_broken first_wrong kind_of holds is_atomic is_target depth_of collapse_from uses_of uses_from line_fault line_breaks line_wrong line_enter line_advance line_place line_first_broken line_first_wrong piece_on_line lexemes_from
steps = refl

step_of_another_name : fault_in (codes "uint64_t x; int main(void) { for (uint64_t i = 0; i < 4; ++x) { } }") ≡ at Unexpected 1 60
unfolding number_of hex_number_of number_piece sign_one sign_two sign_three changing_sign sign_at piece_at comment_end_from is_include after tokens_from word_of is_omp expression line_from clauses_from worked in_blocks typed printed undefined all_read initialized in_full run enter breaks wrong sort_of advance place_code first_broken first_wrong kind_of holds is_atomic is_target depth_of collapse_from uses_of uses_from line_fault line_breaks line_wrong line_enter line_advance line_place line_first_broken line_first_wrong piece_on_line lexemes_from
step_of_another_name = refl

step_down : fault_in (codes "int main(void) { for (uint64_t i = 0; i < 4; i--) { } }") ≡ at Unexpected 1 47
unfolding number_of hex_number_of number_piece sign_one sign_two sign_three changing_sign sign_at piece_at comment_end_from is_include after tokens_from word_of is_omp expression line_from clauses_from worked in_blocks typed printed undefined all_read initialized in_full run enter breaks wrong sort_of advance place_code first_broken first_wrong kind_of holds is_atomic is_target depth_of collapse_from uses_of uses_from line_fault line_breaks line_wrong line_enter line_advance line_place line_first_broken line_first_wrong piece_on_line lexemes_from
step_down = refl

highest_limit : fault_in (codes "int main(void) { for (uint64_t i = 0; i <= 18446744073709551615; i++) { } }") ≡ at BadOperand 1 44
unfolding number_of hex_number_of number_piece sign_one sign_two sign_three changing_sign sign_at piece_at comment_end_from is_include after tokens_from word_of is_omp expression line_from clauses_from worked in_blocks typed printed undefined all_read initialized in_full run enter breaks wrong sort_of advance place_code first_broken first_wrong kind_of holds is_atomic is_target depth_of collapse_from uses_of uses_from line_fault line_breaks line_wrong line_enter line_advance line_place line_first_broken line_first_wrong piece_on_line lexemes_from
highest_limit = refl

high_limit : fault_in (codes "int main(void) { for (uint64_t i = 0; i <= 18446744073709551614; i++) { } }") ≡ None
unfolding number_of hex_number_of number_piece sign_one sign_two sign_three changing_sign sign_at piece_at comment_end_from is_include after tokens_from word_of is_omp expression line_from clauses_from worked in_blocks typed printed undefined all_read initialized in_full run enter breaks wrong sort_of advance place_code first_broken first_wrong kind_of holds is_atomic is_target depth_of collapse_from uses_of uses_from line_fault line_breaks line_wrong line_enter line_advance line_place line_first_broken line_first_wrong piece_on_line lexemes_from
high_limit = refl

else_if : fault_in (codes "uint64_t x; int main(void) { if (x) { x = 1; } else if (x == 2) { x = 3; } else if (x == 4) { } else { x = 5; } if (x) { } else if (x) { } }") ≡ None
unfolding number_of hex_number_of number_piece sign_one sign_two sign_three changing_sign sign_at piece_at comment_end_from is_include after tokens_from word_of is_omp expression line_from clauses_from worked in_blocks typed printed undefined all_read initialized in_full run enter breaks wrong sort_of advance place_code first_broken first_wrong kind_of holds is_atomic is_target depth_of collapse_from uses_of uses_from line_fault line_breaks line_wrong line_enter line_advance line_place line_first_broken line_first_wrong piece_on_line lexemes_from
else_if = refl

else_if_without_brace : fault_in (codes "uint64_t x; int main(void) { if (x) { } else if (x) x = 3; }") ≡ None
unfolding number_of hex_number_of number_piece sign_one sign_two sign_three changing_sign sign_at piece_at comment_end_from is_include after tokens_from word_of is_omp expression line_from clauses_from worked in_blocks typed printed undefined all_read initialized in_full run enter breaks wrong sort_of advance place_code first_broken first_wrong kind_of holds is_atomic is_target depth_of collapse_from uses_of uses_from line_fault line_breaks line_wrong line_enter line_advance line_place line_first_broken line_first_wrong piece_on_line lexemes_from
else_if_without_brace = refl

types : fault_in (codes "size_t A[4]; size_t x; int main(void) { size_t y = 1; for (size_t i = 0; i < 2; i++) { A[i] = y; } }") ≡ None
unfolding number_of hex_number_of number_piece sign_one sign_two sign_three changing_sign sign_at piece_at comment_end_from is_include after tokens_from word_of is_omp expression line_from clauses_from worked in_blocks typed printed undefined all_read initialized in_full run enter breaks wrong sort_of advance place_code first_broken first_wrong kind_of holds is_atomic is_target depth_of collapse_from uses_of uses_from line_fault line_breaks line_wrong line_enter line_advance line_place line_first_broken line_first_wrong piece_on_line lexemes_from
types = refl

numbers : fault_in (codes "uint64_t A[0x10]; int main(void) { print(0xFFul + 0X0a + 7u + 8L + 9ULL + 1llu + 2lu + 0u + 0xFFFFFFFFFFFFFFFF); }") ≡ None
unfolding number_of hex_number_of number_piece sign_one sign_two sign_three changing_sign sign_at piece_at comment_end_from is_include after tokens_from word_of is_omp expression line_from clauses_from worked in_blocks typed printed undefined all_read initialized in_full run enter breaks wrong sort_of advance place_code first_broken first_wrong kind_of holds is_atomic is_target depth_of collapse_from uses_of uses_from line_fault line_breaks line_wrong line_enter line_advance line_place line_first_broken line_first_wrong piece_on_line lexemes_from
numbers = refl

long_of_two_cases : fault_in (codes "int main(void) { print(1lL); }") ≡ at UnknownByte 1 25
unfolding number_of hex_number_of number_piece sign_one sign_two sign_three changing_sign sign_at piece_at comment_end_from is_include after tokens_from word_of is_omp expression line_from clauses_from worked in_blocks typed printed undefined all_read initialized in_full run enter breaks wrong sort_of advance place_code first_broken first_wrong kind_of holds is_atomic is_target depth_of collapse_from uses_of uses_from line_fault line_breaks line_wrong line_enter line_advance line_place line_first_broken line_first_wrong piece_on_line lexemes_from
long_of_two_cases = refl

suffix_and_more : fault_in (codes "int main(void) { print(5u1); }") ≡ at UnknownByte 1 25
unfolding number_of hex_number_of number_piece sign_one sign_two sign_three changing_sign sign_at piece_at comment_end_from is_include after tokens_from word_of is_omp expression line_from clauses_from worked in_blocks typed printed undefined all_read initialized in_full run enter breaks wrong sort_of advance place_code first_broken first_wrong kind_of holds is_atomic is_target depth_of collapse_from uses_of uses_from line_fault line_breaks line_wrong line_enter line_advance line_place line_first_broken line_first_wrong piece_on_line lexemes_from
suffix_and_more = refl

hex_of_nothing : fault_in (codes "int main(void) { print(0x); }") ≡ at UnknownByte 1 25
unfolding number_of hex_number_of number_piece sign_one sign_two sign_three changing_sign sign_at piece_at comment_end_from is_include after tokens_from word_of is_omp expression line_from clauses_from worked in_blocks typed printed undefined all_read initialized in_full run enter breaks wrong sort_of advance place_code first_broken first_wrong kind_of holds is_atomic is_target depth_of collapse_from uses_of uses_from line_fault line_breaks line_wrong line_enter line_advance line_place line_first_broken line_first_wrong piece_on_line lexemes_from
hex_of_nothing = refl

hex_too_large : fault_in (codes "int main(void) { print(0x10000000000000000); }") ≡ at BadNumber 1 24
unfolding number_of hex_number_of number_piece sign_one sign_two sign_three changing_sign sign_at piece_at comment_end_from is_include after tokens_from word_of is_omp expression line_from clauses_from worked in_blocks typed printed undefined all_read initialized in_full run enter breaks wrong sort_of advance place_code first_broken first_wrong kind_of holds is_atomic is_target depth_of collapse_from uses_of uses_from line_fault line_breaks line_wrong line_enter line_advance line_place line_first_broken line_first_wrong piece_on_line lexemes_from
hex_too_large = refl

extra_zero : fault_in (codes "int main(void) { print(007); }") ≡ at BadNumber 1 24
unfolding number_of hex_number_of number_piece sign_one sign_two sign_three changing_sign sign_at piece_at comment_end_from is_include after tokens_from word_of is_omp expression line_from clauses_from worked in_blocks typed printed undefined all_read initialized in_full run enter breaks wrong sort_of advance place_code first_broken first_wrong kind_of holds is_atomic is_target depth_of collapse_from uses_of uses_from line_fault line_breaks line_wrong line_enter line_advance line_place line_first_broken line_first_wrong piece_on_line lexemes_from
extra_zero = refl

defined : fault_in (lines (codes "#define N 8" ∷ codes "uint64_t A[N]; int main(void) { for (uint64_t i = 0; i < N - 1; i++) { A[i] = i % (N + 1); } print(N * 2); return 0; }" ∷ [])) ≡ None
unfolding number_of hex_number_of number_piece sign_one sign_two sign_three changing_sign sign_at piece_at comment_end_from is_include after tokens_from word_of is_omp expression line_from clauses_from worked in_blocks typed printed undefined all_read initialized in_full run enter breaks wrong sort_of advance place_code first_broken first_wrong kind_of holds is_atomic is_target depth_of collapse_from uses_of uses_from line_fault line_breaks line_wrong line_enter line_advance line_place line_first_broken line_first_wrong piece_on_line lexemes_from
defined = refl

defined_in_brackets : fault_in (lines (codes "#define N 2" ∷ codes "#define M (N * (3 + 1) << 1)" ∷ codes "uint64_t A[M]; int main(void) { A[N] = M; }" ∷ [])) ≡ None
unfolding number_of hex_number_of number_piece sign_one sign_two sign_three changing_sign sign_at piece_at comment_end_from is_include after tokens_from word_of is_omp expression line_from clauses_from worked in_blocks typed printed undefined all_read initialized in_full run enter breaks wrong sort_of advance place_code first_broken first_wrong kind_of holds is_atomic is_target depth_of collapse_from uses_of uses_from line_fault line_breaks line_wrong line_enter line_advance line_place line_first_broken line_first_wrong piece_on_line lexemes_from
defined_in_brackets = refl

defined_without_brackets : fault_in (lines (codes "#define N 2 + 4" ∷ codes "int main(void) { }" ∷ [])) ≡ at UnknownDirective 1 2
unfolding number_of hex_number_of number_piece sign_one sign_two sign_three changing_sign sign_at piece_at comment_end_from is_include after tokens_from word_of is_omp expression line_from clauses_from worked in_blocks typed printed undefined all_read initialized in_full run enter breaks wrong sort_of advance place_code first_broken first_wrong kind_of holds is_atomic is_target depth_of collapse_from uses_of uses_from line_fault line_breaks line_wrong line_enter line_advance line_place line_first_broken line_first_wrong piece_on_line lexemes_from
defined_without_brackets = refl

defined_with_parameters : fault_in (lines (codes "#define N(8)" ∷ codes "int main(void) { }" ∷ [])) ≡ at UnknownDirective 1 2
unfolding number_of hex_number_of number_piece sign_one sign_two sign_three changing_sign sign_at piece_at comment_end_from is_include after tokens_from word_of is_omp expression line_from clauses_from worked in_blocks typed printed undefined all_read initialized in_full run enter breaks wrong sort_of advance place_code first_broken first_wrong kind_of holds is_atomic is_target depth_of collapse_from uses_of uses_from line_fault line_breaks line_wrong line_enter line_advance line_place line_first_broken line_first_wrong piece_on_line lexemes_from
defined_with_parameters = refl

defined_as_nothing : fault_in (lines (codes "#define N" ∷ codes "int main(void) { }" ∷ [])) ≡ at UnknownDirective 1 2
unfolding number_of hex_number_of number_piece sign_one sign_two sign_three changing_sign sign_at piece_at comment_end_from is_include after tokens_from word_of is_omp expression line_from clauses_from worked in_blocks typed printed undefined all_read initialized in_full run enter breaks wrong sort_of advance place_code first_broken first_wrong kind_of holds is_atomic is_target depth_of collapse_from uses_of uses_from line_fault line_breaks line_wrong line_enter line_advance line_place line_first_broken line_first_wrong piece_on_line lexemes_from
defined_as_nothing = refl

defined_twice : fault_in (lines (codes "#define N 3" ∷ codes "#define N 3" ∷ codes "int main(void) { }" ∷ [])) ≡ at UnknownDirective 2 2
unfolding number_of hex_number_of number_piece sign_one sign_two sign_three changing_sign sign_at piece_at comment_end_from is_include after tokens_from word_of is_omp expression line_from clauses_from worked in_blocks typed printed undefined all_read initialized in_full run enter breaks wrong sort_of advance place_code first_broken first_wrong kind_of holds is_atomic is_target depth_of collapse_from uses_of uses_from line_fault line_breaks line_wrong line_enter line_advance line_place line_first_broken line_first_wrong piece_on_line lexemes_from
defined_twice = refl

defined_below_zero : fault_in (lines (codes "#define N (3 - 4)" ∷ codes "int main(void) { }" ∷ [])) ≡ at BadOperand 1 14
unfolding number_of hex_number_of number_piece sign_one sign_two sign_three changing_sign sign_at piece_at comment_end_from is_include after tokens_from word_of is_omp expression line_from clauses_from worked in_blocks typed printed undefined all_read initialized in_full run enter breaks wrong sort_of advance place_code first_broken first_wrong kind_of holds is_atomic is_target depth_of collapse_from uses_of uses_from line_fault line_breaks line_wrong line_enter line_advance line_place line_first_broken line_first_wrong piece_on_line lexemes_from
defined_below_zero = refl

constants : fault_in (codes "const uint64_t N = 4 * 1024; enum { W = N / 2, H = W << 1 }; uint64_t A[H]; int main(void) { for (uint64_t i = W; i <= H - 1; i += W / 1024) { A[i] = N; } }") ≡ None
unfolding number_of hex_number_of number_piece sign_one sign_two sign_three changing_sign sign_at piece_at comment_end_from is_include after tokens_from word_of is_omp expression line_from clauses_from worked in_blocks typed printed undefined all_read initialized in_full run enter breaks wrong sort_of advance place_code first_broken first_wrong kind_of holds is_atomic is_target depth_of collapse_from uses_of uses_from line_fault line_breaks line_wrong line_enter line_advance line_place line_first_broken line_first_wrong piece_on_line lexemes_from
constants = refl

constant_below_zero : fault_in (codes "const uint64_t N = 8 + 1 - 2 * 5; int main(void) { }") ≡ at BadOperand 1 26
unfolding number_of hex_number_of number_piece sign_one sign_two sign_three changing_sign sign_at piece_at comment_end_from is_include after tokens_from word_of is_omp expression line_from clauses_from worked in_blocks typed printed undefined all_read initialized in_full run enter breaks wrong sort_of advance place_code first_broken first_wrong kind_of holds is_atomic is_target depth_of collapse_from uses_of uses_from line_fault line_breaks line_wrong line_enter line_advance line_place line_first_broken line_first_wrong piece_on_line lexemes_from
constant_below_zero = refl

constant_too_large : fault_in (codes "const uint64_t N = 18446744073709551615; const uint64_t M = N + 1; int main(void) { }") ≡ at BadOperand 1 63
unfolding number_of hex_number_of number_piece sign_one sign_two sign_three changing_sign sign_at piece_at comment_end_from is_include after tokens_from word_of is_omp expression line_from clauses_from worked in_blocks typed printed undefined all_read initialized in_full run enter breaks wrong sort_of advance place_code first_broken first_wrong kind_of holds is_atomic is_target depth_of collapse_from uses_of uses_from line_fault line_breaks line_wrong line_enter line_advance line_place line_first_broken line_first_wrong piece_on_line lexemes_from
constant_too_large = refl

limit_by_nothing : fault_in (codes "int main(void) { for (uint64_t i = 0; i < 8 / 0; i++) { } }") ≡ at BadOperand 1 45
unfolding number_of hex_number_of number_piece sign_one sign_two sign_three changing_sign sign_at piece_at comment_end_from is_include after tokens_from word_of is_omp expression line_from clauses_from worked in_blocks typed printed undefined all_read initialized in_full run enter breaks wrong sort_of advance place_code first_broken first_wrong kind_of holds is_atomic is_target depth_of collapse_from uses_of uses_from line_fault line_breaks line_wrong line_enter line_advance line_place line_first_broken line_first_wrong piece_on_line lexemes_from
limit_by_nothing = refl

value_by_nothing : fault_in (codes "uint64_t x; int main(void) { x = x / (2 - 2); }") ≡ at BadOperand 1 38
unfolding number_of hex_number_of number_piece sign_one sign_two sign_three changing_sign sign_at piece_at comment_end_from is_include after tokens_from word_of is_omp expression line_from clauses_from worked in_blocks typed printed undefined all_read initialized in_full run enter breaks wrong sort_of advance place_code first_broken first_wrong kind_of holds is_atomic is_target depth_of collapse_from uses_of uses_from line_fault line_breaks line_wrong line_enter line_advance line_place line_first_broken line_first_wrong piece_on_line lexemes_from
value_by_nothing = refl

shifted_by_a_constant : fault_in (codes "enum { K = 60 }; uint64_t x; int main(void) { x = x << (K + 3); x >>= K; x %= (K * 2); }") ≡ None
unfolding number_of hex_number_of number_piece sign_one sign_two sign_three changing_sign sign_at piece_at comment_end_from is_include after tokens_from word_of is_omp expression line_from clauses_from worked in_blocks typed printed undefined all_read initialized in_full run enter breaks wrong sort_of advance place_code first_broken first_wrong kind_of holds is_atomic is_target depth_of collapse_from uses_of uses_from line_fault line_breaks line_wrong line_enter line_advance line_place line_first_broken line_first_wrong piece_on_line lexemes_from
shifted_by_a_constant = refl

shifted_too_far_by_a_constant : fault_in (codes "enum { K = 60 }; uint64_t x; int main(void) { x = x << (K + 4); }") ≡ at BadOperand 1 56
unfolding number_of hex_number_of number_piece sign_one sign_two sign_three changing_sign sign_at piece_at comment_end_from is_include after tokens_from word_of is_omp expression line_from clauses_from worked in_blocks typed printed undefined all_read initialized in_full run enter breaks wrong sort_of advance place_code first_broken first_wrong kind_of holds is_atomic is_target depth_of collapse_from uses_of uses_from line_fault line_breaks line_wrong line_enter line_advance line_place line_first_broken line_first_wrong piece_on_line lexemes_from
shifted_too_far_by_a_constant = refl

long_array : fault_in (codes "const uint64_t N = 65536; uint64_t A[N + 1]; int main(void) { }") ≡ at BadLength 1 38
unfolding number_of hex_number_of number_piece sign_one sign_two sign_three changing_sign sign_at piece_at comment_end_from is_include after tokens_from word_of is_omp expression line_from clauses_from worked in_blocks typed printed undefined all_read initialized in_full run enter breaks wrong sort_of advance place_code first_broken first_wrong kind_of holds is_atomic is_target depth_of collapse_from uses_of uses_from line_fault line_breaks line_wrong line_enter line_advance line_place line_first_broken line_first_wrong piece_on_line lexemes_from
long_array = refl

constant_assigned : fault_in (codes "const uint64_t N = 4; int main(void) { N = 3; }") ≡ at Unexpected 1 40
unfolding number_of hex_number_of number_piece sign_one sign_two sign_three changing_sign sign_at piece_at comment_end_from is_include after tokens_from word_of is_omp expression line_from clauses_from worked in_blocks typed printed undefined all_read initialized in_full run enter breaks wrong sort_of advance place_code first_broken first_wrong kind_of holds is_atomic is_target depth_of collapse_from uses_of uses_from line_fault line_breaks line_wrong line_enter line_advance line_place line_first_broken line_first_wrong piece_on_line lexemes_from
constant_assigned = refl

constant_declared_again : fault_in (codes "const uint64_t N = 4; int main(void) { uint64_t N = 3; }") ≡ at Unexpected 1 49
unfolding number_of hex_number_of number_piece sign_one sign_two sign_three changing_sign sign_at piece_at comment_end_from is_include after tokens_from word_of is_omp expression line_from clauses_from worked in_blocks typed printed undefined all_read initialized in_full run enter breaks wrong sort_of advance place_code first_broken first_wrong kind_of holds is_atomic is_target depth_of collapse_from uses_of uses_from line_fault line_breaks line_wrong line_enter line_advance line_place line_first_broken line_first_wrong piece_on_line lexemes_from
constant_declared_again = refl

constant_with_the_name_of_a_global : fault_in (codes "uint64_t N; const uint64_t N = 4; int main(void) { }") ≡ at Unexpected 1 13
unfolding number_of hex_number_of number_piece sign_one sign_two sign_three changing_sign sign_at piece_at comment_end_from is_include after tokens_from word_of is_omp expression line_from clauses_from worked in_blocks typed printed undefined all_read initialized in_full run enter breaks wrong sort_of advance place_code first_broken first_wrong kind_of holds is_atomic is_target depth_of collapse_from uses_of uses_from line_fault line_breaks line_wrong line_enter line_advance line_place line_first_broken line_first_wrong piece_on_line lexemes_from
constant_with_the_name_of_a_global = refl

values_stay_values : fault_in (codes "uint64_t x; int main(void) { x = 3 - 4; x = x < 3 - 4; }") ≡ None
unfolding number_of hex_number_of number_piece sign_one sign_two sign_three changing_sign sign_at piece_at comment_end_from is_include after tokens_from word_of is_omp expression line_from clauses_from worked in_blocks typed printed undefined all_read initialized in_full run enter breaks wrong sort_of advance place_code first_broken first_wrong kind_of holds is_atomic is_target depth_of collapse_from uses_of uses_from line_fault line_breaks line_wrong line_enter line_advance line_place line_first_broken line_first_wrong piece_on_line lexemes_from
values_stay_values = refl

limit_that_is_no_constant : fault_in (codes "uint64_t n; int main(void) { for (uint64_t i = 0; i < n; i++) { } }") ≡ at Unexpected 1 55
unfolding number_of hex_number_of number_piece sign_one sign_two sign_three changing_sign sign_at piece_at comment_end_from is_include after tokens_from word_of is_omp expression line_from clauses_from worked in_blocks typed printed undefined all_read initialized in_full run enter breaks wrong sort_of advance place_code first_broken first_wrong kind_of holds is_atomic is_target depth_of collapse_from uses_of uses_from line_fault line_breaks line_wrong line_enter line_advance line_place line_first_broken line_first_wrong piece_on_line lexemes_from
limit_that_is_no_constant = refl

long_types : fault_in (lines (codes "unsigned long x; unsigned  long" ∷ codes " long A[3]; int main(void) { unsigned long long y = 1; A[1] = y; }" ∷ [])) ≡ None
unfolding number_of hex_number_of number_piece sign_one sign_two sign_three changing_sign sign_at piece_at comment_end_from is_include after tokens_from word_of is_omp expression line_from clauses_from worked in_blocks typed printed undefined all_read initialized in_full run enter breaks wrong sort_of advance place_code first_broken first_wrong kind_of holds is_atomic is_target depth_of collapse_from uses_of uses_from line_fault line_breaks line_wrong line_enter line_advance line_place line_first_broken line_first_wrong piece_on_line lexemes_from
long_types = refl

unsigned_alone : fault_in (codes "unsigned x; int main(void) { }") ≡ at Unexpected 1 1
unfolding number_of hex_number_of number_piece sign_one sign_two sign_three changing_sign sign_at piece_at comment_end_from is_include after tokens_from word_of is_omp expression line_from clauses_from worked in_blocks typed printed undefined all_read initialized in_full run enter breaks wrong sort_of advance place_code first_broken first_wrong kind_of holds is_atomic is_target depth_of collapse_from uses_of uses_from line_fault line_breaks line_wrong line_enter line_advance line_place line_first_broken line_first_wrong piece_on_line lexemes_from
unsigned_alone = refl

sections : fault_in (lines (codes "#define N 8" ∷ codes "#define D 1" ∷ codes "uint64_t A[N * 2]; int main(void) {" ∷ codes "#pragma omp target teams distribute parallel for collapse(2) device(D) map(tofrom: A[N:N]) num_teams(N)" ∷ codes "for (uint64_t i = 0; i < N; i++) { for (uint64_t j = 0; j < N; ++j) { A[i] += j; } }" ∷ codes "}" ∷ [])) ≡ None
unfolding number_of hex_number_of number_piece sign_one sign_two sign_three changing_sign sign_at piece_at comment_end_from is_include after tokens_from word_of is_omp expression line_from clauses_from worked in_blocks typed printed undefined all_read initialized in_full run enter breaks wrong sort_of advance place_code first_broken first_wrong kind_of holds is_atomic is_target depth_of collapse_from uses_of uses_from line_fault line_breaks line_wrong line_enter line_advance line_place line_first_broken line_first_wrong piece_on_line lexemes_from
sections = refl

device_too_high : fault_in (lines (codes "#define D 4" ∷ codes "uint64_t A[8]; int main(void) {" ∷ codes "#pragma omp target device(D)" ∷ codes "{ }" ∷ codes "}" ∷ [])) ≡ at BadDevice 3 27
unfolding number_of hex_number_of number_piece sign_one sign_two sign_three changing_sign sign_at piece_at comment_end_from is_include after tokens_from word_of is_omp expression line_from clauses_from worked in_blocks typed printed undefined all_read initialized in_full run enter breaks wrong sort_of advance place_code first_broken first_wrong kind_of holds is_atomic is_target depth_of collapse_from uses_of uses_from line_fault line_breaks line_wrong line_enter line_advance line_place line_first_broken line_first_wrong piece_on_line lexemes_from
device_too_high = refl

commas : fault_in (lines (codes "uint64_t A[8]; uint64_t B[16]; int main(void) {" ∷ codes "#pragma omp target enter data map(to: A), map(alloc: B) , nowait, depend(in: A, B)" ∷ codes "}" ∷ [])) ≡ None
unfolding number_of hex_number_of number_piece sign_one sign_two sign_three changing_sign sign_at piece_at comment_end_from is_include after tokens_from word_of is_omp expression line_from clauses_from worked in_blocks typed printed undefined all_read initialized in_full run enter breaks wrong sort_of advance place_code first_broken first_wrong kind_of holds is_atomic is_target depth_of collapse_from uses_of uses_from line_fault line_breaks line_wrong line_enter line_advance line_place line_first_broken line_first_wrong piece_on_line lexemes_from
commas = refl

comma_behind_the_construct : fault_in (lines (codes "uint64_t A[8]; uint64_t B[16]; int main(void) {" ∷ codes "#pragma omp target, map(to: A)" ∷ codes "{ } }" ∷ [])) ≡ at UnknownClause 2 19
unfolding number_of hex_number_of number_piece sign_one sign_two sign_three changing_sign sign_at piece_at comment_end_from is_include after tokens_from word_of is_omp expression line_from clauses_from worked in_blocks typed printed undefined all_read initialized in_full run enter breaks wrong sort_of advance place_code first_broken first_wrong kind_of holds is_atomic is_target depth_of collapse_from uses_of uses_from line_fault line_breaks line_wrong line_enter line_advance line_place line_first_broken line_first_wrong piece_on_line lexemes_from
comma_behind_the_construct = refl

two_commas : fault_in (lines (codes "uint64_t A[8]; uint64_t B[16]; int main(void) {" ∷ codes "#pragma omp target map(to: A),, map(to: B)" ∷ codes "{ } }" ∷ [])) ≡ at UnknownClause 2 30
unfolding number_of hex_number_of number_piece sign_one sign_two sign_three changing_sign sign_at piece_at comment_end_from is_include after tokens_from word_of is_omp expression line_from clauses_from worked in_blocks typed printed undefined all_read initialized in_full run enter breaks wrong sort_of advance place_code first_broken first_wrong kind_of holds is_atomic is_target depth_of collapse_from uses_of uses_from line_fault line_breaks line_wrong line_enter line_advance line_place line_first_broken line_first_wrong piece_on_line lexemes_from
two_commas = refl

comma_at_the_end : fault_in (lines (codes "uint64_t A[8]; uint64_t B[16]; int main(void) {" ∷ codes "#pragma omp target map(to: A)," ∷ codes "{ } }" ∷ [])) ≡ at UnknownClause 2 30
unfolding number_of hex_number_of number_piece sign_one sign_two sign_three changing_sign sign_at piece_at comment_end_from is_include after tokens_from word_of is_omp expression line_from clauses_from worked in_blocks typed printed undefined all_read initialized in_full run enter breaks wrong sort_of advance place_code first_broken first_wrong kind_of holds is_atomic is_target depth_of collapse_from uses_of uses_from line_fault line_breaks line_wrong line_enter line_advance line_place line_first_broken line_first_wrong piece_on_line lexemes_from
comma_at_the_end = refl

elements : fault_in (lines (codes "uint64_t A[8]; uint64_t B[16]; int main(void) {" ∷ codes "#pragma omp target update to(A[3], B[15]) depend(in: A[2 * 3]) depend(out: A[7], B[4 + 4])" ∷ codes "}" ∷ [])) ≡ None
unfolding number_of hex_number_of number_piece sign_one sign_two sign_three changing_sign sign_at piece_at comment_end_from is_include after tokens_from word_of is_omp expression line_from clauses_from worked in_blocks typed printed undefined all_read initialized in_full run enter breaks wrong sort_of advance place_code first_broken first_wrong kind_of holds is_atomic is_target depth_of collapse_from uses_of uses_from line_fault line_breaks line_wrong line_enter line_advance line_place line_first_broken line_first_wrong piece_on_line lexemes_from
elements = refl

mapped_element : fault_in (lines (codes "uint64_t A[8]; uint64_t B[16]; int main(void) {" ∷ codes "#pragma omp target map(to: A[3])" ∷ codes "{ } }" ∷ [])) ≡ at BadBound 2 31
unfolding number_of hex_number_of number_piece sign_one sign_two sign_three changing_sign sign_at piece_at comment_end_from is_include after tokens_from word_of is_omp expression line_from clauses_from worked in_blocks typed printed undefined all_read initialized in_full run enter breaks wrong sort_of advance place_code first_broken first_wrong kind_of holds is_atomic is_target depth_of collapse_from uses_of uses_from line_fault line_breaks line_wrong line_enter line_advance line_place line_first_broken line_first_wrong piece_on_line lexemes_from
mapped_element = refl

element_of_nothing : fault_in (lines (codes "uint64_t A[8]; uint64_t B[16]; int main(void) {" ∷ codes "#pragma omp target update to(A[])" ∷ codes "}" ∷ [])) ≡ at BadBound 2 32
unfolding number_of hex_number_of number_piece sign_one sign_two sign_three changing_sign sign_at piece_at comment_end_from is_include after tokens_from word_of is_omp expression line_from clauses_from worked in_blocks typed printed undefined all_read initialized in_full run enter breaks wrong sort_of advance place_code first_broken first_wrong kind_of holds is_atomic is_target depth_of collapse_from uses_of uses_from line_fault line_breaks line_wrong line_enter line_advance line_place line_first_broken line_first_wrong piece_on_line lexemes_from
element_of_nothing = refl

first_bound_left_out : fault_in (lines (codes "uint64_t A[8]; uint64_t B[16]; int main(void) {" ∷ codes "#pragma omp target map(to: A[:4])" ∷ codes "{ } }" ∷ [])) ≡ None
unfolding number_of hex_number_of number_piece sign_one sign_two sign_three changing_sign sign_at piece_at comment_end_from is_include after tokens_from word_of is_omp expression line_from clauses_from worked in_blocks typed printed undefined all_read initialized in_full run enter breaks wrong sort_of advance place_code first_broken first_wrong kind_of holds is_atomic is_target depth_of collapse_from uses_of uses_from line_fault line_breaks line_wrong line_enter line_advance line_place line_first_broken line_first_wrong piece_on_line lexemes_from
first_bound_left_out = refl

last_bound_left_out : fault_in (lines (codes "uint64_t A[8]; uint64_t B[16]; int main(void) {" ∷ codes "#pragma omp target map(to: A[4:], B[:])" ∷ codes "{ } }" ∷ [])) ≡ None
unfolding number_of hex_number_of number_piece sign_one sign_two sign_three changing_sign sign_at piece_at comment_end_from is_include after tokens_from word_of is_omp expression line_from clauses_from worked in_blocks typed printed undefined all_read initialized in_full run enter breaks wrong sort_of advance place_code first_broken first_wrong kind_of holds is_atomic is_target depth_of collapse_from uses_of uses_from line_fault line_breaks line_wrong line_enter line_advance line_place line_first_broken line_first_wrong piece_on_line lexemes_from
last_bound_left_out = refl

last_bound_too_late : fault_in (lines (codes "uint64_t A[8]; uint64_t B[16]; int main(void) {" ∷ codes "#pragma omp target map(to: A[8:])" ∷ codes "{ } }" ∷ [])) ≡ at BadBound 2 32
unfolding number_of hex_number_of number_piece sign_one sign_two sign_three changing_sign sign_at piece_at comment_end_from is_include after tokens_from word_of is_omp expression line_from clauses_from worked in_blocks typed printed undefined all_read initialized in_full run enter breaks wrong sort_of advance place_code first_broken first_wrong kind_of holds is_atomic is_target depth_of collapse_from uses_of uses_from line_fault line_breaks line_wrong line_enter line_advance line_place line_first_broken line_first_wrong piece_on_line lexemes_from
last_bound_too_late = refl

constant_bounds : fault_in (lines (codes "uint64_t A[8]; uint64_t B[16]; int main(void) {" ∷ codes "#pragma omp target map(to: A[8 / 4:(2 + 4) - 1], B[2 * 4 + 1:1 << 2])" ∷ codes "{ } }" ∷ [])) ≡ None
unfolding number_of hex_number_of number_piece sign_one sign_two sign_three changing_sign sign_at piece_at comment_end_from is_include after tokens_from word_of is_omp expression line_from clauses_from worked in_blocks typed printed undefined all_read initialized in_full run enter breaks wrong sort_of advance place_code first_broken first_wrong kind_of holds is_atomic is_target depth_of collapse_from uses_of uses_from line_fault line_breaks line_wrong line_enter line_advance line_place line_first_broken line_first_wrong piece_on_line lexemes_from
constant_bounds = refl

negative_bound : fault_in (lines (codes "uint64_t A[8]; uint64_t B[16]; int main(void) {" ∷ codes "#pragma omp target map(to: A[3 - 4:1])" ∷ codes "{ } }" ∷ [])) ≡ None
unfolding number_of hex_number_of number_piece sign_one sign_two sign_three changing_sign sign_at piece_at comment_end_from is_include after tokens_from word_of is_omp expression line_from clauses_from worked in_blocks typed printed undefined all_read initialized in_full run enter breaks wrong sort_of advance place_code first_broken first_wrong kind_of holds is_atomic is_target depth_of collapse_from uses_of uses_from line_fault line_breaks line_wrong line_enter line_advance line_place line_first_broken line_first_wrong piece_on_line lexemes_from
negative_bound = refl

signed_bound : fault_in (lines (codes "uint64_t A[8]; uint64_t B[16]; int main(void) {" ∷ codes "#pragma omp target map(to: A[-4:1])" ∷ codes "{ } }" ∷ [])) ≡ at BadBound 2 30
unfolding number_of hex_number_of number_piece sign_one sign_two sign_three changing_sign sign_at piece_at comment_end_from is_include after tokens_from word_of is_omp expression line_from clauses_from worked in_blocks typed printed undefined all_read initialized in_full run enter breaks wrong sort_of advance place_code first_broken first_wrong kind_of holds is_atomic is_target depth_of collapse_from uses_of uses_from line_fault line_breaks line_wrong line_enter line_advance line_place line_first_broken line_first_wrong piece_on_line lexemes_from
signed_bound = refl

array_called_nowait : fault_in (lines (codes "uint64_t nowait[8]; uint64_t B[16]; int main(void) {" ∷ codes "#pragma omp target map(to: nowait, B)" ∷ codes "{ } }" ∷ [])) ≡ None
unfolding number_of hex_number_of number_piece sign_one sign_two sign_three changing_sign sign_at piece_at comment_end_from is_include after tokens_from word_of is_omp expression line_from clauses_from worked in_blocks typed printed undefined all_read initialized in_full run enter breaks wrong sort_of advance place_code first_broken first_wrong kind_of holds is_atomic is_target depth_of collapse_from uses_of uses_from line_fault line_breaks line_wrong line_enter line_advance line_place line_first_broken line_first_wrong piece_on_line lexemes_from
array_called_nowait = refl

-- ---- lines in full

abbrev words : List ℕ → List Lexeme
words line = map (λ p. p.lexeme) (line_in_full (((codes "N"), 4) ∷ []) ((codes "A", 8) ∷ []) (lexemes_of line 1))

in_full_a : words (codes "#pragma omp target update to(A[3], A[k]), from(A[:N]) depend(in: A[2 * k + N]), depend(out: A[N:])") ≡ map (λ p. p.lexeme) (lexemes_of (codes "#pragma omp target update to(A[3:1], A[k:1]) from(A[0:4]) depend(in: A[2 * k + 4:1]) depend(out: A[4:4])") 1)
unfolding number_of hex_number_of number_piece sign_one sign_two sign_three changing_sign sign_at piece_at comment_end_from is_include after tokens_from word_of is_omp expression line_from clauses_from worked in_blocks typed printed undefined all_read initialized in_full run enter breaks wrong sort_of advance place_code first_broken first_wrong kind_of holds is_atomic is_target depth_of collapse_from uses_of uses_from line_fault line_breaks line_wrong line_enter line_advance line_place line_first_broken line_first_wrong piece_on_line lexemes_from
in_full_a = refl

in_full_b : words (codes "#pragma omp target map(to: A[N - 1:N / 2]), device(N)") ≡ map (λ p. p.lexeme) (lexemes_of (codes "#pragma omp target map(to: A[3:2]) device(4)") 1)
unfolding number_of hex_number_of number_piece sign_one sign_two sign_three changing_sign sign_at piece_at comment_end_from is_include after tokens_from word_of is_omp expression line_from clauses_from worked in_blocks typed printed undefined all_read initialized in_full run enter breaks wrong sort_of advance place_code first_broken first_wrong kind_of holds is_atomic is_target depth_of collapse_from uses_of uses_from line_fault line_breaks line_wrong line_enter line_advance line_place line_first_broken line_first_wrong piece_on_line lexemes_from
in_full_b = refl

bodies_without_braces : fault_in (codes "uint64_t A[4]; uint64_t x; uint64_t y; int main(void) { for (uint64_t i = 0; i < 4; i++) A[i] = x; for (uint64_t i = 0; i < 4; i++) for (uint64_t j = 0; j < 4; j++) if (i == j) A[j] += i; else if (i) --x; else print(j); if (x) if (y) x = 1; else { y = 2; } x = 3; }") ≡ None
unfolding number_of hex_number_of number_piece sign_one sign_two sign_three changing_sign sign_at piece_at comment_end_from is_include after tokens_from word_of is_omp expression line_from clauses_from worked in_blocks typed printed undefined all_read initialized in_full run enter breaks wrong sort_of advance place_code first_broken first_wrong kind_of holds is_atomic is_target depth_of collapse_from uses_of uses_from line_fault line_breaks line_wrong line_enter line_advance line_place line_first_broken line_first_wrong piece_on_line lexemes_from
bodies_without_braces = refl

body_that_is_a_declaration : fault_in (codes "uint64_t A[4]; uint64_t x; uint64_t y; int main(void) { if (x) uint64_t z = 1; }") ≡ at Unexpected 1 64
unfolding number_of hex_number_of number_piece sign_one sign_two sign_three changing_sign sign_at piece_at comment_end_from is_include after tokens_from word_of is_omp expression line_from clauses_from worked in_blocks typed printed undefined all_read initialized in_full run enter breaks wrong sort_of advance place_code first_broken first_wrong kind_of holds is_atomic is_target depth_of collapse_from uses_of uses_from line_fault line_breaks line_wrong line_enter line_advance line_place line_first_broken line_first_wrong piece_on_line lexemes_from
body_that_is_a_declaration = refl

empty_body : fault_in (codes "uint64_t A[4]; uint64_t x; uint64_t y; int main(void) { for (uint64_t i = 0; i < 4; i++) ; }") ≡ at Unexpected 1 90
unfolding number_of hex_number_of number_piece sign_one sign_two sign_three changing_sign sign_at piece_at comment_end_from is_include after tokens_from word_of is_omp expression line_from clauses_from worked in_blocks typed printed undefined all_read initialized in_full run enter breaks wrong sort_of advance place_code first_broken first_wrong kind_of holds is_atomic is_target depth_of collapse_from uses_of uses_from line_fault line_breaks line_wrong line_enter line_advance line_place line_first_broken line_first_wrong piece_on_line lexemes_from
empty_body = refl

head_without_body : fault_in (codes "uint64_t A[4]; uint64_t x; uint64_t y; int main(void) { if (x) }") ≡ at Unexpected 1 64
unfolding number_of hex_number_of number_piece sign_one sign_two sign_three changing_sign sign_at piece_at comment_end_from is_include after tokens_from word_of is_omp expression line_from clauses_from worked in_blocks typed printed undefined all_read initialized in_full run enter breaks wrong sort_of advance place_code first_broken first_wrong kind_of holds is_atomic is_target depth_of collapse_from uses_of uses_from line_fault line_breaks line_wrong line_enter line_advance line_place line_first_broken line_first_wrong piece_on_line lexemes_from
head_without_body = refl

body_that_is_a_directive : fault_in (lines (codes "uint64_t A[4]; uint64_t x; uint64_t y; int main(void) { if (x)" ∷ codes "#pragma omp taskwait" ∷ codes " }" ∷ [])) ≡ at Unexpected 2 1
unfolding number_of hex_number_of number_piece sign_one sign_two sign_three changing_sign sign_at piece_at comment_end_from is_include after tokens_from word_of is_omp expression line_from clauses_from worked in_blocks typed printed undefined all_read initialized in_full run enter breaks wrong sort_of advance place_code first_broken first_wrong kind_of holds is_atomic is_target depth_of collapse_from uses_of uses_from line_fault line_breaks line_wrong line_enter line_advance line_place line_first_broken line_first_wrong piece_on_line lexemes_from
body_that_is_a_directive = refl

loop_name_in_a_body_without_braces : fault_in (codes "uint64_t A[4]; uint64_t x; uint64_t y; int main(void) { for (uint64_t i = 0; i < 4; i++) i = 3; }") ≡ at LoopNameAssigned 1 90
unfolding number_of hex_number_of number_piece sign_one sign_two sign_three changing_sign sign_at piece_at comment_end_from is_include after tokens_from word_of is_omp expression line_from clauses_from worked in_blocks typed printed undefined all_read initialized in_full run enter breaks wrong sort_of advance place_code first_broken first_wrong kind_of holds is_atomic is_target depth_of collapse_from uses_of uses_from line_fault line_breaks line_wrong line_enter line_advance line_place line_first_broken line_first_wrong piece_on_line lexemes_from
loop_name_in_a_body_without_braces = refl

loop_name_behind_it : fault_in (codes "uint64_t A[4]; uint64_t x; uint64_t y; int main(void) { for (uint64_t i = 0; i < 4; i++) x = i; x = i; }") ≡ at Undeclared 1 101
unfolding number_of hex_number_of number_piece sign_one sign_two sign_three changing_sign sign_at piece_at comment_end_from is_include after tokens_from word_of is_omp expression line_from clauses_from worked in_blocks typed printed undefined all_read initialized in_full run enter breaks wrong sort_of advance place_code first_broken first_wrong kind_of holds is_atomic is_target depth_of collapse_from uses_of uses_from line_fault line_breaks line_wrong line_enter line_advance line_place line_first_broken line_first_wrong piece_on_line lexemes_from
loop_name_behind_it = refl

two_names_else : fault_in (codes "uint64_t A[4]; uint64_t x; uint64_t y; int main(void) { if (x) y = 1; y = 2; else y = 3; }") ≡ at Unexpected 1 78
unfolding number_of hex_number_of number_piece sign_one sign_two sign_three changing_sign sign_at piece_at comment_end_from is_include after tokens_from word_of is_omp expression line_from clauses_from worked in_blocks typed printed undefined all_read initialized in_full run enter breaks wrong sort_of advance place_code first_broken first_wrong kind_of holds is_atomic is_target depth_of collapse_from uses_of uses_from line_fault line_breaks line_wrong line_enter line_advance line_place line_first_broken line_first_wrong piece_on_line lexemes_from
two_names_else = refl

deep : fault_in (codes "uint64_t A[4]; uint64_t x; uint64_t y; int main(void) { if (x) if (x) if (x) if (x) if (x) if (x) if (x) if (x) if (x) if (x) if (x) if (x) if (x) if (x) if (x) x = 1; }") ≡ None
unfolding number_of hex_number_of number_piece sign_one sign_two sign_three changing_sign sign_at piece_at comment_end_from is_include after tokens_from word_of is_omp expression line_from clauses_from worked in_blocks typed printed undefined all_read initialized in_full run enter breaks wrong sort_of advance place_code first_broken first_wrong kind_of holds is_atomic is_target depth_of collapse_from uses_of uses_from line_fault line_breaks line_wrong line_enter line_advance line_place line_first_broken line_first_wrong piece_on_line lexemes_from
deep = refl

too_deep : fault_in (codes "uint64_t A[4]; uint64_t x; uint64_t y; int main(void) { if (x) if (x) if (x) if (x) if (x) if (x) if (x) if (x) if (x) if (x) if (x) if (x) if (x) if (x) if (x) if (x) x = 1; }") ≡ at TooDeep 1 169
unfolding number_of hex_number_of number_piece sign_one sign_two sign_three changing_sign sign_at piece_at comment_end_from is_include after tokens_from word_of is_omp expression line_from clauses_from worked in_blocks typed printed undefined all_read initialized in_full run enter breaks wrong sort_of advance place_code first_broken first_wrong kind_of holds is_atomic is_target depth_of collapse_from uses_of uses_from line_fault line_breaks line_wrong line_enter line_advance line_place line_first_broken line_first_wrong piece_on_line lexemes_from
too_deep = refl

nest_without_braces : fault_in (lines (codes "uint64_t A[8]; int main(void) {" ∷ codes "#pragma omp target parallel for collapse(2)" ∷ codes "for (uint64_t i = 0; i < 2; i++) for (uint64_t j = 0; j < 4; j++) A[4 * i + j] = i;" ∷ codes "}" ∷ [])) ≡ None
unfolding number_of hex_number_of number_piece sign_one sign_two sign_three changing_sign sign_at piece_at comment_end_from is_include after tokens_from word_of is_omp expression line_from clauses_from worked in_blocks typed printed undefined all_read initialized in_full run enter breaks wrong sort_of advance place_code first_broken first_wrong kind_of holds is_atomic is_target depth_of collapse_from uses_of uses_from line_fault line_breaks line_wrong line_enter line_advance line_place line_first_broken line_first_wrong piece_on_line lexemes_from
nest_without_braces = refl

nest_that_is_none : fault_in (lines (codes "uint64_t A[8]; int main(void) {" ∷ codes "#pragma omp target parallel for collapse(2)" ∷ codes "for (uint64_t i = 0; i < 2; i++) A[i] = i;" ∷ codes "}" ∷ [])) ≡ at NoBody 3 34
unfolding number_of hex_number_of number_piece sign_one sign_two sign_three changing_sign sign_at piece_at comment_end_from is_include after tokens_from word_of is_omp expression line_from clauses_from worked in_blocks typed printed undefined all_read initialized in_full run enter breaks wrong sort_of advance place_code first_broken first_wrong kind_of holds is_atomic is_target depth_of collapse_from uses_of uses_from line_fault line_breaks line_wrong line_enter line_advance line_place line_first_broken line_first_wrong piece_on_line lexemes_from
nest_that_is_none = refl

target_without_block : fault_in (lines (codes "uint64_t A[8]; int main(void) {" ∷ codes "#pragma omp target" ∷ codes "A[0] = 1;" ∷ codes "}" ∷ [])) ≡ at NoBody 3 1
unfolding number_of hex_number_of number_piece sign_one sign_two sign_three changing_sign sign_at piece_at comment_end_from is_include after tokens_from word_of is_omp expression line_from clauses_from worked in_blocks typed printed undefined all_read initialized in_full run enter breaks wrong sort_of advance place_code first_broken first_wrong kind_of holds is_atomic is_target depth_of collapse_from uses_of uses_from line_fault line_breaks line_wrong line_enter line_advance line_place line_first_broken line_first_wrong piece_on_line lexemes_from
target_without_block = refl

declarations : fault_in (codes "uint64_t A[4], B[2 * 4], s; int main(void) { uint64_t a = 1, b = a + 1, c = read(); print(b); }") ≡ None
unfolding number_of hex_number_of number_piece sign_one sign_two sign_three changing_sign sign_at piece_at comment_end_from is_include after tokens_from word_of is_omp expression line_from clauses_from worked in_blocks typed printed undefined all_read initialized in_full run enter breaks wrong sort_of advance place_code first_broken first_wrong kind_of holds is_atomic is_target depth_of collapse_from uses_of uses_from line_fault line_breaks line_wrong line_enter line_advance line_place line_first_broken line_first_wrong piece_on_line lexemes_from
declarations = refl

declared_twice : fault_in (codes "uint64_t A[4], A[5]; int main(void) { }") ≡ at AlreadyDeclared 1 16
unfolding number_of hex_number_of number_piece sign_one sign_two sign_three changing_sign sign_at piece_at comment_end_from is_include after tokens_from word_of is_omp expression line_from clauses_from worked in_blocks typed printed undefined all_read initialized in_full run enter breaks wrong sort_of advance place_code first_broken first_wrong kind_of holds is_atomic is_target depth_of collapse_from uses_of uses_from line_fault line_breaks line_wrong line_enter line_advance line_place line_first_broken line_first_wrong piece_on_line lexemes_from
declared_twice = refl

two_loop_names : fault_in (codes "uint64_t A[4]; uint64_t x; uint64_t y; int main(void) { for (uint64_t i = 0, j = 0; i < 4; i++) { } }") ≡ at Unexpected 1 76
unfolding number_of hex_number_of number_piece sign_one sign_two sign_three changing_sign sign_at piece_at comment_end_from is_include after tokens_from word_of is_omp expression line_from clauses_from worked in_blocks typed printed undefined all_read initialized in_full run enter breaks wrong sort_of advance place_code first_broken first_wrong kind_of holds is_atomic is_target depth_of collapse_from uses_of uses_from line_fault line_breaks line_wrong line_enter line_advance line_place line_first_broken line_first_wrong piece_on_line lexemes_from
two_loop_names = refl

no_value : fault_in (codes "uint64_t A[4]; uint64_t x; uint64_t y; int main(void) { uint64_t a, b; }") ≡ None
unfolding number_of hex_number_of number_piece sign_one sign_two sign_three changing_sign sign_at piece_at comment_end_from is_include after tokens_from word_of is_omp expression line_from clauses_from worked in_blocks typed printed undefined all_read initialized in_full run enter breaks wrong sort_of advance place_code first_broken first_wrong kind_of holds is_atomic is_target depth_of collapse_from uses_of uses_from line_fault line_breaks line_wrong line_enter line_advance line_place line_first_broken line_first_wrong piece_on_line lexemes_from
no_value = refl

int_loops : fault_in (codes "uint64_t A[4]; const int n = 4; int main(void) { for (int i = 0; i < n; i++) { for (int j = 0; j <= 1; ++j) A[i] = j; } }") ≡ None
unfolding number_of hex_number_of number_piece sign_one sign_two sign_three changing_sign sign_at piece_at comment_end_from is_include after tokens_from word_of is_omp expression line_from clauses_from worked in_blocks typed printed undefined all_read initialized in_full run enter breaks wrong sort_of advance place_code first_broken first_wrong kind_of holds is_target depth_of collapse_from uses_of uses_from line_fault line_breaks line_wrong line_enter line_advance line_place line_first_broken line_first_wrong piece_on_line lexemes_from
int_loops = refl

small_ints : fault_in (codes "int main(void) { int x = 0; x = 1; }") ≡ None
unfolding number_of hex_number_of number_piece sign_one sign_two sign_three changing_sign sign_at piece_at comment_end_from is_include after tokens_from word_of is_omp expression line_from clauses_from worked in_blocks typed printed undefined all_read initialized in_full run enter breaks wrong sort_of advance place_code first_broken first_wrong kind_of holds is_target depth_of collapse_from uses_of uses_from line_fault line_breaks line_wrong line_enter line_advance line_place line_first_broken line_first_wrong piece_on_line lexemes_from
small_ints = refl

comma_of_statements : fault_in (codes "uint64_t A[4]; uint64_t x; uint64_t y; int main(void) { x = 1, y = 2; }") ≡ at Unexpected 1 62
unfolding number_of hex_number_of number_piece sign_one sign_two sign_three changing_sign sign_at piece_at comment_end_from is_include after tokens_from word_of is_omp expression line_from clauses_from worked in_blocks typed printed undefined all_read initialized in_full run enter breaks wrong sort_of advance place_code first_broken first_wrong kind_of holds is_atomic is_target depth_of collapse_from uses_of uses_from line_fault line_breaks line_wrong line_enter line_advance line_place line_first_broken line_first_wrong piece_on_line lexemes_from
comma_of_statements = refl

long_names : fault_in (codes "unsigned long a, b[3]; int main() { unsigned long long c = 1, d = 2; a = c + d; b[0] = a; }") ≡ None
unfolding number_of hex_number_of number_piece sign_one sign_two sign_three changing_sign sign_at piece_at comment_end_from is_include after tokens_from word_of is_omp expression line_from clauses_from worked in_blocks typed printed undefined all_read initialized in_full run enter breaks wrong sort_of advance place_code first_broken first_wrong kind_of holds is_atomic is_target depth_of collapse_from uses_of uses_from line_fault line_breaks line_wrong line_enter line_advance line_place line_first_broken line_first_wrong piece_on_line lexemes_from
long_names = refl

-- ---- blocks in full

abbrev tokens : List ℕ → List Terminal
tokens text = map (λ i. i.terminal) (items_of text)

blocks_a : tokens (codes "int main() { if (1) if (2) print(3); else print(4); for (uint64_t i = 0; i <= 2; i++) print(i); }") ≡ tokens (codes "int main() { if (1) { if (2) { print(3); } else { print(4); } } for (uint64_t i = 0; i <= 2; i++) { print(i); } }")
unfolding number_of hex_number_of number_piece sign_one sign_two sign_three changing_sign sign_at piece_at comment_end_from is_include after tokens_from word_of is_omp expression line_from clauses_from worked in_blocks typed printed undefined all_read initialized in_full run enter breaks wrong sort_of advance place_code first_broken first_wrong kind_of holds is_atomic is_target depth_of collapse_from uses_of uses_from line_fault line_breaks line_wrong line_enter line_advance line_place line_first_broken line_first_wrong piece_on_line lexemes_from
blocks_a = refl

blocks_b : tokens (codes "int main() { if (1) { } else if (2) print(3); else if (4) { } else print(5); print(6); }") ≡ tokens (codes "int main() { if (1) { } else { if (2) { print(3); } else { if (4) { } else { print(5); } } } print(6); }")
unfolding number_of hex_number_of number_piece sign_one sign_two sign_three changing_sign sign_at piece_at comment_end_from is_include after tokens_from word_of is_omp expression line_from clauses_from worked in_blocks typed printed undefined all_read initialized in_full run enter breaks wrong sort_of advance place_code first_broken first_wrong kind_of holds is_atomic is_target depth_of collapse_from uses_of uses_from line_fault line_breaks line_wrong line_enter line_advance line_place line_first_broken line_first_wrong piece_on_line lexemes_from
blocks_b = refl

blocks_c : tokens (codes "enum { N = 2 }; unsigned long A[N + 1], x; int main() { x = x % (N << 3) + N; }") ≡ tokens (codes "enum { N = 2 }; uint64_t A[3]; uint64_t x; int main() { x = x % 16 + 2; }")
unfolding number_of hex_number_of number_piece sign_one sign_two sign_three changing_sign sign_at piece_at comment_end_from is_include after tokens_from word_of is_omp expression line_from clauses_from worked in_blocks typed printed undefined all_read initialized in_full run enter breaks wrong sort_of advance place_code first_broken first_wrong kind_of holds is_atomic is_target depth_of collapse_from uses_of uses_from line_fault line_breaks line_wrong line_enter line_advance line_place line_first_broken line_first_wrong piece_on_line lexemes_from
blocks_c = refl

defined_with_remarks : fault_in (lines (codes "#define N 8 // cells: don't count (7)" ∷ codes "#define M (N + 1) /* one more * / than N */" ∷ codes "uint64_t A[M * N];" ∷ codes "int main() { }" ∷ [])) ≡ None
unfolding number_of hex_number_of number_piece sign_one sign_two sign_three changing_sign sign_at piece_at comment_end_from is_include after tokens_from word_of is_omp expression line_from clauses_from worked in_blocks typed printed undefined all_read initialized in_full run enter breaks wrong sort_of advance place_code first_broken first_wrong kind_of holds is_atomic is_target depth_of collapse_from uses_of uses_from line_fault line_breaks line_wrong line_enter line_advance line_place line_first_broken line_first_wrong piece_on_line lexemes_from
defined_with_remarks = refl

defined_behind_a_remark : fault_in (lines (codes "#define N 8 /* a */ + 1 /* b */" ∷ codes "int main() { }" ∷ [])) ≡ at UnknownDirective 1 2
unfolding number_of hex_number_of number_piece sign_one sign_two sign_three changing_sign sign_at piece_at comment_end_from is_include after tokens_from word_of is_omp expression line_from clauses_from worked in_blocks typed printed undefined all_read initialized in_full run enter breaks wrong sort_of advance place_code first_broken first_wrong kind_of holds is_atomic is_target depth_of collapse_from uses_of uses_from line_fault line_breaks line_wrong line_enter line_advance line_place line_first_broken line_first_wrong piece_on_line lexemes_from
defined_behind_a_remark = refl

defined_in_an_open_remark : fault_in (lines (codes "#define N 8 /* a" ∷ codes "b */ int main() { }" ∷ [])) ≡ at UnknownDirective 1 2
unfolding number_of hex_number_of number_piece sign_one sign_two sign_three changing_sign sign_at piece_at comment_end_from is_include after tokens_from word_of is_omp expression line_from clauses_from worked in_blocks typed printed undefined all_read initialized in_full run enter breaks wrong sort_of advance place_code first_broken first_wrong kind_of holds is_atomic is_target depth_of collapse_from uses_of uses_from line_fault line_breaks line_wrong line_enter line_advance line_place line_first_broken line_first_wrong piece_on_line lexemes_from
defined_in_an_open_remark = refl

-- ---- changes in full

full_a : tokens (codes "int main() { uint64_t x = 1; x += 2; x -= x * 2; x <<= 3; x /= 2 + 3; x++; --x; return 0; }") ≡ tokens (codes "int main(void) { uint64_t x = 1; x = x + (2); x = x - (x * 2); x = x << 3; x = x / 5; x = x + 1; x = x - 1; }")
unfolding number_of hex_number_of number_piece sign_one sign_two sign_three changing_sign sign_at piece_at comment_end_from is_include after tokens_from word_of is_omp expression line_from clauses_from worked in_blocks typed printed undefined all_read initialized in_full run enter breaks wrong sort_of advance place_code first_broken first_wrong kind_of holds is_atomic is_target depth_of collapse_from uses_of uses_from line_fault line_breaks line_wrong line_enter line_advance line_place line_first_broken line_first_wrong piece_on_line lexemes_from
full_a = refl

full_b : tokens (codes "uint64_t A[4]; int main(void) { A[1]++; ++A[2]; A[A[0] & 1] |= 3 + 4; for (uint64_t i = 0; i <= 3; ++i) A[i] *= i; for (uint64_t i = 0; i < 4; i++) { } }") ≡ tokens (codes "uint64_t A[4]; int main(void) { A[1] = A[1] + 1; A[2] = A[2] + 1; A[A[0] & 1] = A[A[0] & 1] | (3 + 4); for (uint64_t i = 0; i < 4; i += 1) { A[i] = A[i] * (i); } for (uint64_t i = 0; i < 4; i += 1) { } }")
unfolding number_of hex_number_of number_piece sign_one sign_two sign_three changing_sign sign_at piece_at comment_end_from is_include after tokens_from word_of is_omp expression line_from clauses_from worked in_blocks typed printed undefined all_read initialized in_full run enter breaks wrong sort_of advance place_code first_broken first_wrong kind_of holds is_atomic is_target depth_of collapse_from uses_of uses_from line_fault line_breaks line_wrong line_enter line_advance line_place line_first_broken line_first_wrong piece_on_line lexemes_from
full_b = refl

full_c : tokens (codes "const size_t N = 3; enum { M = N + 1, K = M << 1 }; unsigned long long A[K]; int main(void) { A[N] = M; }") ≡ tokens (codes "uint64_t A[8]; int main(void) { A[3] = 4; }")
unfolding number_of hex_number_of number_piece sign_one sign_two sign_three changing_sign sign_at piece_at comment_end_from is_include after tokens_from word_of is_omp expression line_from clauses_from worked in_blocks typed printed undefined all_read initialized in_full run enter breaks wrong sort_of advance place_code first_broken first_wrong kind_of holds is_atomic is_target depth_of collapse_from uses_of uses_from line_fault line_breaks line_wrong line_enter line_advance line_place line_first_broken line_first_wrong piece_on_line lexemes_from
full_c = refl

group_that_is_closed : fault_in (codes "uint64_t A[4]; uint64_t x; uint64_t y; int main(void) { x += 1) + (2; }") ≡ at Unexpected 1 63
unfolding number_of hex_number_of number_piece sign_one sign_two sign_three changing_sign sign_at piece_at comment_end_from is_include after tokens_from word_of is_omp expression line_from clauses_from worked in_blocks typed printed undefined all_read initialized in_full run enter breaks wrong sort_of advance place_code first_broken first_wrong kind_of holds is_atomic is_target depth_of collapse_from uses_of uses_from line_fault line_breaks line_wrong line_enter line_advance line_place line_first_broken line_first_wrong piece_on_line lexemes_from
group_that_is_closed = refl

empty_right_side : fault_in (codes "uint64_t A[4]; uint64_t x; uint64_t y; int main(void) { x += ; }") ≡ at Unexpected 1 62
unfolding number_of hex_number_of number_piece sign_one sign_two sign_three changing_sign sign_at piece_at comment_end_from is_include after tokens_from word_of is_omp expression line_from clauses_from worked in_blocks typed printed undefined all_read initialized in_full run enter breaks wrong sort_of advance place_code first_broken first_wrong kind_of holds is_atomic is_target depth_of collapse_from uses_of uses_from line_fault line_breaks line_wrong line_enter line_advance line_place line_first_broken line_first_wrong piece_on_line lexemes_from
empty_right_side = refl

front_of_an_assignment : fault_in (codes "uint64_t A[4]; uint64_t x; uint64_t y; int main(void) { ++x = 5; }") ≡ at Unexpected 1 57
unfolding number_of hex_number_of number_piece sign_one sign_two sign_three changing_sign sign_at piece_at comment_end_from is_include after tokens_from word_of is_omp expression line_from clauses_from worked in_blocks typed printed undefined all_read initialized in_full run enter breaks wrong sort_of advance place_code first_broken first_wrong kind_of holds is_atomic is_target depth_of collapse_from uses_of uses_from line_fault line_breaks line_wrong line_enter line_advance line_place line_first_broken line_first_wrong piece_on_line lexemes_from
front_of_an_assignment = refl

changes_in_a_row : fault_in (codes "uint64_t A[4]; uint64_t x; uint64_t y; int main(void) { x = y += 1; }") ≡ at Unexpected 1 63
unfolding number_of hex_number_of number_piece sign_one sign_two sign_three changing_sign sign_at piece_at comment_end_from is_include after tokens_from word_of is_omp expression line_from clauses_from worked in_blocks typed printed undefined all_read initialized in_full run enter breaks wrong sort_of advance place_code first_broken first_wrong kind_of holds is_atomic is_target depth_of collapse_from uses_of uses_from line_fault line_breaks line_wrong line_enter line_advance line_place line_first_broken line_first_wrong piece_on_line lexemes_from
changes_in_a_row = refl

changed_declaration : fault_in (codes "uint64_t A[4]; uint64_t x; uint64_t y; int main(void) { uint64_t z += 1; }") ≡ at Unexpected 1 68
unfolding number_of hex_number_of number_piece sign_one sign_two sign_three changing_sign sign_at piece_at comment_end_from is_include after tokens_from word_of is_omp expression line_from clauses_from worked in_blocks typed printed undefined all_read initialized in_full run enter breaks wrong sort_of advance place_code first_broken first_wrong kind_of holds is_atomic is_target depth_of collapse_from uses_of uses_from line_fault line_breaks line_wrong line_enter line_advance line_place line_first_broken line_first_wrong piece_on_line lexemes_from
changed_declaration = refl

divided_by_a_sum : fault_in (codes "uint64_t A[4]; uint64_t x; uint64_t y; int main(void) { x /= 2 + y; }") ≡ at BadOperand 1 62
unfolding number_of hex_number_of number_piece sign_one sign_two sign_three changing_sign sign_at piece_at comment_end_from is_include after tokens_from word_of is_omp expression line_from clauses_from worked in_blocks typed printed undefined all_read initialized in_full run enter breaks wrong sort_of advance place_code first_broken first_wrong kind_of holds is_atomic is_target depth_of collapse_from uses_of uses_from line_fault line_breaks line_wrong line_enter line_advance line_place line_first_broken line_first_wrong piece_on_line lexemes_from
divided_by_a_sum = refl

divided_by_a_name_in_brackets : fault_in (codes "uint64_t A[4]; uint64_t x; uint64_t y; int main(void) { x /= (y); }") ≡ at BadOperand 1 62
unfolding number_of hex_number_of number_piece sign_one sign_two sign_three changing_sign sign_at piece_at comment_end_from is_include after tokens_from word_of is_omp expression line_from clauses_from worked in_blocks typed printed undefined all_read initialized in_full run enter breaks wrong sort_of advance place_code first_broken first_wrong kind_of holds is_atomic is_target depth_of collapse_from uses_of uses_from line_fault line_breaks line_wrong line_enter line_advance line_place line_first_broken line_first_wrong piece_on_line lexemes_from
divided_by_a_name_in_brackets = refl

constant_in_main : fault_in (codes "uint64_t A[4]; uint64_t x; uint64_t y; int main(void) { const uint64_t N = 3; x = N; const int m = 2; }") ≡ None
unfolding number_of hex_number_of number_piece sign_one sign_two sign_three changing_sign sign_at piece_at comment_end_from is_include after tokens_from word_of is_omp expression line_from clauses_from worked in_blocks typed printed undefined all_read initialized in_full run enter breaks wrong sort_of advance place_code first_broken first_wrong kind_of holds is_atomic is_target depth_of collapse_from uses_of uses_from line_fault line_breaks line_wrong line_enter line_advance line_place line_first_broken line_first_wrong piece_on_line lexemes_from
constant_in_main = refl

constant_in_a_block : fault_in (codes "uint64_t A[4]; uint64_t x; uint64_t y; int main(void) { { const uint64_t N = 3; } }") ≡ at Undeclared 1 59
unfolding number_of hex_number_of number_piece sign_one sign_two sign_three changing_sign sign_at piece_at comment_end_from is_include after tokens_from word_of is_omp expression line_from clauses_from worked in_blocks typed printed undefined all_read initialized in_full run enter breaks wrong sort_of advance place_code first_broken first_wrong kind_of holds is_atomic is_target depth_of collapse_from uses_of uses_from line_fault line_breaks line_wrong line_enter line_advance line_place line_first_broken line_first_wrong piece_on_line lexemes_from
constant_in_a_block = refl

enumerated_below_zero : fault_in (codes "enum { A = 1, B = A - 2 }; int main(void) { }") ≡ at BadOperand 1 21
unfolding number_of hex_number_of number_piece sign_one sign_two sign_three changing_sign sign_at piece_at comment_end_from is_include after tokens_from word_of is_omp expression line_from clauses_from worked in_blocks typed printed undefined all_read initialized in_full run enter breaks wrong sort_of advance place_code first_broken first_wrong kind_of holds is_atomic is_target depth_of collapse_from uses_of uses_from line_fault line_breaks line_wrong line_enter line_advance line_place line_first_broken line_first_wrong piece_on_line lexemes_from
enumerated_below_zero = refl

outer_changed : fault_in (lines (codes "uint64_t x; int main(void) {" ∷ codes "#pragma omp target" ∷ codes "{ x += 1; } }" ∷ [])) ≡ at OuterAssigned 3 3
unfolding number_of hex_number_of number_piece sign_one sign_two sign_three changing_sign sign_at piece_at comment_end_from is_include after tokens_from word_of is_omp expression line_from clauses_from worked in_blocks typed printed undefined all_read initialized in_full run enter breaks wrong sort_of advance place_code first_broken first_wrong kind_of holds is_atomic is_target depth_of collapse_from uses_of uses_from line_fault line_breaks line_wrong line_enter line_advance line_place line_first_broken line_first_wrong piece_on_line lexemes_from
outer_changed = refl

device_by_an_expression : fault_in (lines (codes "uint64_t A[8]; int main(void) {" ∷ codes "#pragma omp target device(3 + 1) map(to: A)" ∷ codes "{ } }" ∷ [])) ≡ at BadDevice 2 27
unfolding number_of hex_number_of number_piece sign_one sign_two sign_three changing_sign sign_at piece_at comment_end_from is_include after tokens_from word_of is_omp expression line_from clauses_from worked in_blocks typed printed undefined all_read initialized in_full run enter breaks wrong sort_of advance place_code first_broken first_wrong kind_of holds is_atomic is_target depth_of collapse_from uses_of uses_from line_fault line_breaks line_wrong line_enter line_advance line_place line_first_broken line_first_wrong piece_on_line lexemes_from
device_by_an_expression = refl

amount_without_value : fault_in (lines (codes "uint64_t A[8]; int main(void) {" ∷ codes "#pragma omp target teams loop num_teams(2 - 3)" ∷ codes "for (uint64_t i = 0; i < 2; i++) { } }" ∷ [])) ≡ at Unexpected 2 43
unfolding number_of hex_number_of number_piece sign_one sign_two sign_three changing_sign sign_at piece_at comment_end_from is_include after tokens_from word_of is_omp expression line_from clauses_from worked in_blocks typed printed undefined all_read initialized in_full run enter breaks wrong sort_of advance place_code first_broken first_wrong kind_of holds is_atomic is_target depth_of collapse_from uses_of uses_from line_fault line_breaks line_wrong line_enter line_advance line_place line_first_broken line_first_wrong piece_on_line lexemes_from
amount_without_value = refl

chunk_by_an_expression : fault_in (lines (codes "uint64_t A[8]; int main(void) {" ∷ codes "#pragma omp target parallel for schedule(static, 4 / 2) collapse(1 + 1)" ∷ codes "for (uint64_t i = 0; i < 2; i++) for (uint64_t j = 0; j < 2; j++) { } }" ∷ [])) ≡ None
unfolding number_of hex_number_of number_piece sign_one sign_two sign_three changing_sign sign_at piece_at comment_end_from is_include after tokens_from word_of is_omp expression line_from clauses_from worked in_blocks typed printed undefined all_read initialized in_full run enter breaks wrong sort_of advance place_code first_broken first_wrong kind_of holds is_atomic is_target depth_of collapse_from uses_of uses_from line_fault line_breaks line_wrong line_enter line_advance line_place line_first_broken line_first_wrong piece_on_line lexemes_from
chunk_by_an_expression = refl

-- initializers of globals
globals_set : tokens (codes "#define N 3" ++ 10 ∷ codes "uint64_t n = 8, m; uint64_t A[N] = {1, N}; int main() { m = n; }") ≡ tokens (codes "uint64_t n; uint64_t m; uint64_t A[3]; int main(void) { n = 8; A[0] = 1; A[1] = 3; m = n; }")
unfolding number_of hex_number_of number_piece sign_one sign_two sign_three changing_sign sign_at piece_at comment_end_from is_include after tokens_from word_of is_omp expression line_from clauses_from worked in_blocks typed printed undefined all_read initialized in_full run enter breaks wrong sort_of advance place_code first_broken first_wrong kind_of holds is_atomic is_target depth_of collapse_from uses_of uses_from line_fault line_breaks line_wrong line_enter line_advance line_place line_first_broken line_first_wrong piece_on_line lexemes_from
globals_set = refl

globals_set_around_a_line : fault_in (lines (codes "uint64_t n =" ∷ codes "#define N 4" ∷ codes "N; uint64_t A[2] = {0x1, 2u};" ∷ codes "int main() { A[0] = n; }" ∷ [])) ≡ None
unfolding number_of hex_number_of number_piece sign_one sign_two sign_three changing_sign sign_at piece_at comment_end_from is_include after tokens_from word_of is_omp expression line_from clauses_from worked in_blocks typed printed undefined all_read initialized in_full run enter breaks wrong sort_of advance place_code first_broken first_wrong kind_of holds is_atomic is_target depth_of collapse_from uses_of uses_from line_fault line_breaks line_wrong line_enter line_advance line_place line_first_broken line_first_wrong piece_on_line lexemes_from
globals_set_around_a_line = refl

global_set_to_a_name : fault_in (codes "uint64_t n; uint64_t m = n; int main() { }") ≡ at Unexpected 1 24
unfolding number_of hex_number_of number_piece sign_one sign_two sign_three changing_sign sign_at piece_at comment_end_from is_include after tokens_from word_of is_omp expression line_from clauses_from worked in_blocks typed printed undefined all_read initialized in_full run enter breaks wrong sort_of advance place_code first_broken first_wrong kind_of holds is_atomic is_target depth_of collapse_from uses_of uses_from line_fault line_breaks line_wrong line_enter line_advance line_place line_first_broken line_first_wrong piece_on_line lexemes_from
global_set_to_a_name = refl

global_set_to_a_sum : fault_in (codes "uint64_t m = 1 + 2; int main() { }") ≡ at Unexpected 1 12
unfolding number_of hex_number_of number_piece sign_one sign_two sign_three changing_sign sign_at piece_at comment_end_from is_include after tokens_from word_of is_omp expression line_from clauses_from worked in_blocks typed printed undefined all_read initialized in_full run enter breaks wrong sort_of advance place_code first_broken first_wrong kind_of holds is_atomic is_target depth_of collapse_from uses_of uses_from line_fault line_breaks line_wrong line_enter line_advance line_place line_first_broken line_first_wrong piece_on_line lexemes_from
global_set_to_a_sum = refl

too_many_numbers : fault_in (codes "uint64_t A[2] = {1, 2, 3}; int main() { }") ≡ at Unexpected 1 15
unfolding number_of hex_number_of number_piece sign_one sign_two sign_three changing_sign sign_at piece_at comment_end_from is_include after tokens_from word_of is_omp expression line_from clauses_from worked in_blocks typed printed undefined all_read initialized in_full run enter breaks wrong sort_of advance place_code first_broken first_wrong kind_of holds is_atomic is_target depth_of collapse_from uses_of uses_from line_fault line_breaks line_wrong line_enter line_advance line_place line_first_broken line_first_wrong piece_on_line lexemes_from
too_many_numbers = refl

no_numbers : fault_in (codes "uint64_t A[2] = {}; int main() { }") ≡ at Unexpected 1 15
unfolding number_of hex_number_of number_piece sign_one sign_two sign_three changing_sign sign_at piece_at comment_end_from is_include after tokens_from word_of is_omp expression line_from clauses_from worked in_blocks typed printed undefined all_read initialized in_full run enter breaks wrong sort_of advance place_code first_broken first_wrong kind_of holds is_atomic is_target depth_of collapse_from uses_of uses_from line_fault line_breaks line_wrong line_enter line_advance line_place line_first_broken line_first_wrong piece_on_line lexemes_from
no_numbers = refl

a_list_for_a_scalar : fault_in (codes "uint64_t n = {1}; int main() { }") ≡ at Unexpected 1 12
unfolding number_of hex_number_of number_piece sign_one sign_two sign_three changing_sign sign_at piece_at comment_end_from is_include after tokens_from word_of is_omp expression line_from clauses_from worked in_blocks typed printed undefined all_read initialized in_full run enter breaks wrong sort_of advance place_code first_broken first_wrong kind_of holds is_atomic is_target depth_of collapse_from uses_of uses_from line_fault line_breaks line_wrong line_enter line_advance line_place line_first_broken line_first_wrong piece_on_line lexemes_from
a_list_for_a_scalar = refl

a_bad_number : fault_in (codes "uint64_t n = 007; int main() { }") ≡ at Unexpected 1 12
unfolding number_of hex_number_of number_piece sign_one sign_two sign_three changing_sign sign_at piece_at comment_end_from is_include after tokens_from word_of is_omp expression line_from clauses_from worked in_blocks typed printed undefined all_read initialized in_full run enter breaks wrong sort_of advance place_code first_broken first_wrong kind_of holds is_atomic is_target depth_of collapse_from uses_of uses_from line_fault line_breaks line_wrong line_enter line_advance line_place line_first_broken line_first_wrong piece_on_line lexemes_from
a_bad_number = refl

twice_declared : fault_in (codes "uint64_t n = 1; uint64_t n = 2; int main() { }") ≡ at AlreadyDeclared 1 26
unfolding number_of hex_number_of number_piece sign_one sign_two sign_three changing_sign sign_at piece_at comment_end_from is_include after tokens_from word_of is_omp expression line_from clauses_from worked in_blocks typed printed undefined all_read initialized in_full run enter breaks wrong sort_of advance place_code first_broken first_wrong kind_of holds is_atomic is_target depth_of collapse_from uses_of uses_from line_fault line_breaks line_wrong line_enter line_advance line_place line_first_broken line_first_wrong piece_on_line lexemes_from
twice_declared = refl

-- a program as people write it
whole_program : fault_in (lines (
    codes "#include <stdint.h>" ∷
    codes "#define N 64 // cells" ∷
    codes "#define STEPS (4)" ∷
    codes "const uint64_t HALF = N / 2;" ∷
    codes "uint64_t a[N], b[N], sum[1];" ∷
    codes "int main() {" ∷
    codes "  for (uint64_t i = 0; i < N; i++)" ∷
    codes "    a[i] = i % HALF << 2;" ∷
    codes "  #pragma omp target data map(tofrom: a[:N]), map(alloc: b)" ∷
    codes "  {" ∷
    codes "    for (size_t t = 0; t < STEPS; ++t) {" ∷
    codes "      #pragma omp target teams distribute parallel for num_teams(N / 8) thread_limit(2 * (1 + 1)) device(1 - 1), nowait depend(inout: a[0])" ∷
    codes "      for (size_t i = 1; i <= N - 2; i++)" ∷
    codes "        if (a[i] > a[i - 1]) b[i] = a[i - 1] + 0x1F;" ∷
    codes "        else if (a[i] == 0u) b[i]++;" ∷
    codes "        else { b[i] += a[i + 1] * 2; b[i] >>= 1; }" ∷
    codes "      #pragma omp taskwait" ∷
    codes "    }" ∷
    codes "  }" ∷
    codes "  uint64_t x = sum[0], y = 2;" ∷
    codes "  x -= y; --y;" ∷
    codes "  print(x);" ∷
    codes "  return 0;" ∷
    codes "}" ∷ [])) ≡ None
unfolding number_of hex_number_of number_piece sign_one sign_two sign_three changing_sign sign_at piece_at comment_end_from is_include after tokens_from word_of is_omp expression line_from clauses_from worked in_blocks typed printed undefined all_read initialized in_full run enter breaks wrong sort_of advance place_code first_broken first_wrong kind_of holds is_atomic is_target depth_of collapse_from uses_of uses_from line_fault line_breaks line_wrong line_enter line_advance line_place line_first_broken line_first_wrong piece_on_line lexemes_from
whole_program = refl
