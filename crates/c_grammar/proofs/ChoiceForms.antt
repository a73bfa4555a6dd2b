-- What is answered of sources with conditional operators, and what they are written out as, by computation.
use Rattle.std.proofs.Common.{◌≡◌, ℕ, List, [], ◌∷◌, ◌++◌, map, Option, Some, None, refl}
use Rattle.std.specs.Prelude.{codes}
use Rattle.base.specs.declared.fault.TextFault.{TextFault}
use Rattle.base.specs.declared.fault.ReadCode.{ReadCode as Code}
use Rattle.base.specs.declared.fault.ReadCode.TheVariants.{UnknownByte, Unexpected, Undeclared, UnknownClause}
use Rattle.c_tokens.specs.Piece.{number_of, hex_number_of, number_piece, sign_one, sign_two, sign_three, changing_sign, sign_at, format_at, piece_at, comment_end_from, is_include}
use Rattle.c_tokens.specs.Text.{after, tokens_from}
use Rattle.c_grammar.specs.Lexeme.{word_of, piece_on_line, lexemes_from}
use Rattle.c_grammar.specs.Lines.{is_omp, kind_of, holds, is_atomic, is_target, depth_of, collapse_from, uses_of, uses_from, line_fault}
use Rattle.c_grammar.specs.LineRules.{line_breaks, line_wrong, line_enter}
use Rattle.c_grammar.specs.LineMachine.{line_advance, line_place, line_first_broken, line_first_wrong}
use Rattle.c_grammar.specs.Expressions.{expression}
use Rattle.c_grammar.specs.Functions.{called, defined, arguments, index_len}
use Rattle.c_grammar.specs.FunctionHeads.{parameters}
use Rattle.c_grammar.specs.LineForms.{line_from}
use Rattle.c_grammar.specs.Constants.{worked, undefined}
use Rattle.c_grammar.specs.Changes.{in_full}
use Rattle.c_grammar.specs.Allocations.{all_read}
use Rattle.c_grammar.specs.Clauses.{clauses_from}
use Rattle.c_grammar.specs.Initial.{initialized}
use Rattle.c_grammar.specs.Blocks.{typed, in_blocks}
use Rattle.c_grammar.specs.Prints.{printed}
use Rattle.c_grammar.specs.Machine.{run}
use Rattle.c_grammar.specs.Rules.{enter, breaks, wrong, sort_of}
use Rattle.c_grammar.specs.Program.{advance, place_code, first_broken, first_wrong}
use Rattle.c_grammar.specs.Terminal.{Terminal}
use Rattle.c_grammar.specs.Source.{fault_in, items_of}

abbrev at : Code → ℕ → ℕ → Option TextFault
at code line column = Some (record { code = code; line = line; column = column })

abbrev lines : List (List ℕ) → List ℕ
lines [] = []
lines (l ∷ ls) = l ++ (10 ∷ lines ls)

-- the lines of main, behind the declarations of an array and two scalars
abbrev source : List (List ℕ) → List ℕ
source ls = lines (codes "uint64_t A[16], x, y; int main() {" ∷ (ls ++ codes "}" ∷ []))

abbrev fault : List (List ℕ) → Option TextFault
fault ls = fault_in (source ls)

abbrev tokens : List (List ℕ) → List Terminal
tokens ls = map (λ i. i.terminal) (items_of (source ls))

plain : tokens (codes "x = y ? 1 : 2;" ∷ []) ≡ tokens (codes "if (y) { x = 1; } else { x = 2; }" ∷ [])
unfolding called defined parameters arguments index_len number_of hex_number_of number_piece sign_one sign_two sign_three changing_sign sign_at format_at piece_at comment_end_from is_include after tokens_from word_of is_omp expression line_from clauses_from worked in_blocks typed printed undefined all_read initialized in_full run enter breaks wrong sort_of advance place_code first_broken first_wrong kind_of holds is_atomic is_target depth_of collapse_from uses_of uses_from line_fault line_breaks line_wrong line_enter line_advance line_place line_first_broken line_first_wrong piece_on_line lexemes_from
plain = refl

on_the_left : tokens (codes "A[y ? 1 : 2] = 3;" ∷ []) ≡ tokens (codes "if (y) { A[1] = 3; } else { A[2] = 3; }" ∷ [])
unfolding called defined parameters arguments index_len number_of hex_number_of number_piece sign_one sign_two sign_three changing_sign sign_at format_at piece_at comment_end_from is_include after tokens_from word_of is_omp expression line_from clauses_from worked in_blocks typed printed undefined all_read initialized in_full run enter breaks wrong sort_of advance place_code first_broken first_wrong kind_of holds is_atomic is_target depth_of collapse_from uses_of uses_from line_fault line_breaks line_wrong line_enter line_advance line_place line_first_broken line_first_wrong piece_on_line lexemes_from
on_the_left = refl

in_a_sum : tokens (codes "x = 1 + (x < y ? x : y) * 2;" ∷ []) ≡ tokens (codes "if (x < y) { x = 1 + (x) * 2; } else { x = 1 + (y) * 2; }" ∷ [])
unfolding called defined parameters arguments index_len number_of hex_number_of number_piece sign_one sign_two sign_three changing_sign sign_at format_at piece_at comment_end_from is_include after tokens_from word_of is_omp expression line_from clauses_from worked in_blocks typed printed undefined all_read initialized in_full run enter breaks wrong sort_of advance place_code first_broken first_wrong kind_of holds is_atomic is_target depth_of collapse_from uses_of uses_from line_fault line_breaks line_wrong line_enter line_advance line_place line_first_broken line_first_wrong piece_on_line lexemes_from
in_a_sum = refl

of_a_sum : tokens (codes "x = 1 + x < y ? A[x] : A[y] + 1;" ∷ []) ≡ tokens (codes "if (1 + x < y) { x = A[x]; } else { x = A[y] + 1; }" ∷ [])
unfolding called defined parameters arguments index_len number_of hex_number_of number_piece sign_one sign_two sign_three changing_sign sign_at format_at piece_at comment_end_from is_include after tokens_from word_of is_omp expression line_from clauses_from worked in_blocks typed printed undefined all_read initialized in_full run enter breaks wrong sort_of advance place_code first_broken first_wrong kind_of holds is_atomic is_target depth_of collapse_from uses_of uses_from line_fault line_breaks line_wrong line_enter line_advance line_place line_first_broken line_first_wrong piece_on_line lexemes_from
of_a_sum = refl

nested_behind : tokens (codes "x = x ? 1 : y ? 2 : 3;" ∷ []) ≡ tokens (codes "if (x) { x = 1; } else { if (y) { x = 2; } else { x = 3; } }" ∷ [])
unfolding called defined parameters arguments index_len number_of hex_number_of number_piece sign_one sign_two sign_three changing_sign sign_at format_at piece_at comment_end_from is_include after tokens_from word_of is_omp expression line_from clauses_from worked in_blocks typed printed undefined all_read initialized in_full run enter breaks wrong sort_of advance place_code first_broken first_wrong kind_of holds is_atomic is_target depth_of collapse_from uses_of uses_from line_fault line_breaks line_wrong line_enter line_advance line_place line_first_broken line_first_wrong piece_on_line lexemes_from
nested_behind = refl

nested_between : tokens (codes "x = x ? y ? 1 : 2 : 3;" ∷ []) ≡ tokens (codes "if (x) { if (y) { x = 1; } else { x = 2; } } else { x = 3; }" ∷ [])
unfolding called defined parameters arguments index_len number_of hex_number_of number_piece sign_one sign_two sign_three changing_sign sign_at format_at piece_at comment_end_from is_include after tokens_from word_of is_omp expression line_from clauses_from worked in_blocks typed printed undefined all_read initialized in_full run enter breaks wrong sort_of advance place_code first_broken first_wrong kind_of holds is_atomic is_target depth_of collapse_from uses_of uses_from line_fault line_breaks line_wrong line_enter line_advance line_place line_first_broken line_first_wrong piece_on_line lexemes_from
nested_between = refl

a_condition : tokens (codes "x = (x ? y : 1) ? 2 : 3;" ∷ []) ≡ tokens (codes "if (x) { if ((y)) { x = 2; } else { x = 3; } } else { if ((1)) { x = 2; } else { x = 3; } }" ∷ [])
unfolding called defined parameters arguments index_len number_of hex_number_of number_piece sign_one sign_two sign_three changing_sign sign_at format_at piece_at comment_end_from is_include after tokens_from word_of is_omp expression line_from clauses_from worked in_blocks typed printed undefined all_read initialized in_full run enter breaks wrong sort_of advance place_code first_broken first_wrong kind_of holds is_atomic is_target depth_of collapse_from uses_of uses_from line_fault line_breaks line_wrong line_enter line_advance line_place line_first_broken line_first_wrong piece_on_line lexemes_from
a_condition = refl

two : tokens (codes "x = (x ? 1 : 2) + (y ? 3 : 4);" ∷ []) ≡ tokens (codes "if (x) { if (y) { x = (1) + (3); } else { x = (1) + (4); } } else { if (y) { x = (2) + (3); } else { x = (2) + (4); } }" ∷ [])
unfolding called defined parameters arguments index_len number_of hex_number_of number_piece sign_one sign_two sign_three changing_sign sign_at format_at piece_at comment_end_from is_include after tokens_from word_of is_omp expression line_from clauses_from worked in_blocks typed printed undefined all_read initialized in_full run enter breaks wrong sort_of advance place_code first_broken first_wrong kind_of holds is_atomic is_target depth_of collapse_from uses_of uses_from line_fault line_breaks line_wrong line_enter line_advance line_place line_first_broken line_first_wrong piece_on_line lexemes_from
two = refl

a_declaration : tokens (codes "uint64_t n = y ? 1 : 2, m = 3; x = n + m;" ∷ []) ≡ tokens (codes "uint64_t n = 0; if (y) { n = 1; } else { n = 2; } uint64_t m = 3; x = n + m;" ∷ [])
unfolding called defined parameters arguments index_len number_of hex_number_of number_piece sign_one sign_two sign_three changing_sign sign_at format_at piece_at comment_end_from is_include after tokens_from word_of is_omp expression line_from clauses_from worked in_blocks typed printed undefined all_read initialized in_full run enter breaks wrong sort_of advance place_code first_broken first_wrong kind_of holds is_atomic is_target depth_of collapse_from uses_of uses_from line_fault line_breaks line_wrong line_enter line_advance line_place line_first_broken line_first_wrong piece_on_line lexemes_from
a_declaration = refl

printed_one : tokens (codes "print(y ? 1 : 2);" ∷ codes "printf(\"%lu\\n\", 1 + (y ? 1 : 2));" ∷ []) ≡ tokens (codes "if (y) { print(1); } else { print(2); }" ∷ codes "if (y) { print(1 + (1)); } else { print(1 + (2)); }" ∷ [])
unfolding called defined parameters arguments index_len number_of hex_number_of number_piece sign_one sign_two sign_three changing_sign sign_at format_at piece_at comment_end_from is_include after tokens_from word_of is_omp expression line_from clauses_from worked in_blocks typed printed undefined all_read initialized in_full run enter breaks wrong sort_of advance place_code first_broken first_wrong kind_of holds is_atomic is_target depth_of collapse_from uses_of uses_from line_fault line_breaks line_wrong line_enter line_advance line_place line_first_broken line_first_wrong piece_on_line lexemes_from
printed_one = refl

a_change : tokens (codes "x += y ? 1 : 2; A[x] <<= y ? 3 : 4;" ∷ []) ≡ tokens (codes "if (y) { x += 1; } else { x += 2; } if (y) { A[x] <<= 3; } else { A[x] <<= 4; }" ∷ [])
unfolding called defined parameters arguments index_len number_of hex_number_of number_piece sign_one sign_two sign_three changing_sign sign_at format_at piece_at comment_end_from is_include after tokens_from word_of is_omp expression line_from clauses_from worked in_blocks typed printed undefined all_read initialized in_full run enter breaks wrong sort_of advance place_code first_broken first_wrong kind_of holds is_atomic is_target depth_of collapse_from uses_of uses_from line_fault line_breaks line_wrong line_enter line_advance line_place line_first_broken line_first_wrong piece_on_line lexemes_from
a_change = refl

without_braces : tokens (codes "for (uint64_t i = 0; i < 4; i++) if (x) y = i ? x : 1;" ∷ []) ≡ tokens (codes "for (uint64_t i = 0; i < 4; i++) { if (x) { if (i) { y = x; } else { y = 1; } } }" ∷ [])
unfolding called defined parameters arguments index_len number_of hex_number_of number_piece sign_one sign_two sign_three changing_sign sign_at format_at piece_at comment_end_from is_include after tokens_from word_of is_omp expression line_from clauses_from worked in_blocks typed printed undefined all_read initialized in_full run enter breaks wrong sort_of advance place_code first_broken first_wrong kind_of holds is_atomic is_target depth_of collapse_from uses_of uses_from line_fault line_breaks line_wrong line_enter line_advance line_place line_first_broken line_first_wrong piece_on_line lexemes_from
without_braces = refl

read : fault (codes "uint64_t n = x < 4 ? A[y & 7] : 0;" ∷ codes "A[n & 3 ? 0 : 1] += (x ? n : y) - (n ? y : x ? 2 : 1);" ∷ codes "print(y ? n : 1 + n);" ∷ []) ≡ None
unfolding called defined parameters arguments index_len number_of hex_number_of number_piece sign_one sign_two sign_three changing_sign sign_at format_at piece_at comment_end_from is_include after tokens_from word_of is_omp expression line_from clauses_from worked in_blocks typed printed undefined all_read initialized in_full run enter breaks wrong sort_of advance place_code first_broken first_wrong kind_of holds is_atomic is_target depth_of collapse_from uses_of uses_from line_fault line_breaks line_wrong line_enter line_advance line_place line_first_broken line_first_wrong piece_on_line lexemes_from
read = refl

in_a_target : fault (codes "#pragma omp target teams distribute parallel for map(tofrom: A)" ∷ codes "for (uint64_t i = 0; i < 16; i++) { uint64_t n = i < 8 ? i : 15 - i; A[i] = n ? A[i] : 1; }" ∷ []) ≡ None
unfolding called defined parameters arguments index_len number_of hex_number_of number_piece sign_one sign_two sign_three changing_sign sign_at format_at piece_at comment_end_from is_include after tokens_from word_of is_omp expression line_from clauses_from worked in_blocks typed printed undefined all_read initialized in_full run enter breaks wrong sort_of advance place_code first_broken first_wrong kind_of holds is_atomic is_target depth_of collapse_from uses_of uses_from line_fault line_breaks line_wrong line_enter line_advance line_place line_first_broken line_first_wrong piece_on_line lexemes_from
in_a_target = refl

four_deep : fault (codes "x = y ? 1 : x ? 2 : A[0] ? 3 : A[1] ? 4 : 5;" ∷ []) ≡ None
unfolding called defined parameters arguments index_len number_of hex_number_of number_piece sign_one sign_two sign_three changing_sign sign_at format_at piece_at comment_end_from is_include after tokens_from word_of is_omp expression line_from clauses_from worked in_blocks typed printed undefined all_read initialized in_full run enter breaks wrong sort_of advance place_code first_broken first_wrong kind_of holds is_atomic is_target depth_of collapse_from uses_of uses_from line_fault line_breaks line_wrong line_enter line_advance line_place line_first_broken line_first_wrong piece_on_line lexemes_from
four_deep = refl

five_deep : fault (codes "x = y ? 1 : x ? 2 : A[0] ? 3 : A[1] ? 4 : A[2] ? 5 : 6;" ∷ []) ≡ at UnknownByte 2 48
unfolding called defined parameters arguments index_len number_of hex_number_of number_piece sign_one sign_two sign_three changing_sign sign_at format_at piece_at comment_end_from is_include after tokens_from word_of is_omp expression line_from clauses_from worked in_blocks typed printed undefined all_read initialized in_full run enter breaks wrong sort_of advance place_code first_broken first_wrong kind_of holds is_atomic is_target depth_of collapse_from uses_of uses_from line_fault line_breaks line_wrong line_enter line_advance line_place line_first_broken line_first_wrong piece_on_line lexemes_from
five_deep = refl

undeclared_in_it : fault (codes "x = y ? 1 : z;" ∷ []) ≡ at Undeclared 2 13
unfolding called defined parameters arguments index_len number_of hex_number_of number_piece sign_one sign_two sign_three changing_sign sign_at format_at piece_at comment_end_from is_include after tokens_from word_of is_omp expression line_from clauses_from worked in_blocks typed printed undefined all_read initialized in_full run enter breaks wrong sort_of advance place_code first_broken first_wrong kind_of holds is_atomic is_target depth_of collapse_from uses_of uses_from line_fault line_breaks line_wrong line_enter line_advance line_place line_first_broken line_first_wrong piece_on_line lexemes_from
undeclared_in_it = refl

-- what a function returns
returned : fault_in (codes "uint64_t x; uint64_t f(uint64_t a) { return a ? 1 : 2; } int main() { x = f(x); }") ≡ None
unfolding called defined parameters arguments index_len number_of hex_number_of number_piece sign_one sign_two sign_three changing_sign sign_at format_at piece_at comment_end_from is_include after tokens_from word_of is_omp expression line_from clauses_from worked in_blocks typed printed undefined all_read initialized in_full run enter breaks wrong sort_of advance place_code first_broken first_wrong kind_of holds is_atomic is_target depth_of collapse_from uses_of uses_from line_fault line_breaks line_wrong line_enter line_advance line_place line_first_broken line_first_wrong piece_on_line lexemes_from
returned = refl

-- where none can be written out, a question mark is no token, and what comes before it is as it was

without_a_colon : fault (codes "x = y ? 1;" ∷ []) ≡ at UnknownByte 2 7
unfolding called defined parameters arguments index_len number_of hex_number_of number_piece sign_one sign_two sign_three changing_sign sign_at format_at piece_at comment_end_from is_include after tokens_from word_of is_omp expression line_from clauses_from worked in_blocks typed printed undefined all_read initialized in_full run enter breaks wrong sort_of advance place_code first_broken first_wrong kind_of holds is_atomic is_target depth_of collapse_from uses_of uses_from line_fault line_breaks line_wrong line_enter line_advance line_place line_first_broken line_first_wrong piece_on_line lexemes_from
without_a_colon = refl

without_a_condition : fault (codes "x = ? 1 : 2;" ∷ []) ≡ at UnknownByte 2 5
unfolding called defined parameters arguments index_len number_of hex_number_of number_piece sign_one sign_two sign_three changing_sign sign_at format_at piece_at comment_end_from is_include after tokens_from word_of is_omp expression line_from clauses_from worked in_blocks typed printed undefined all_read initialized in_full run enter breaks wrong sort_of advance place_code first_broken first_wrong kind_of holds is_atomic is_target depth_of collapse_from uses_of uses_from line_fault line_breaks line_wrong line_enter line_advance line_place line_first_broken line_first_wrong piece_on_line lexemes_from
without_a_condition = refl

without_a_first : fault (codes "x = y ? : 2;" ∷ []) ≡ at UnknownByte 2 7
unfolding called defined parameters arguments index_len number_of hex_number_of number_piece sign_one sign_two sign_three changing_sign sign_at format_at piece_at comment_end_from is_include after tokens_from word_of is_omp expression line_from clauses_from worked in_blocks typed printed undefined all_read initialized in_full run enter breaks wrong sort_of advance place_code first_broken first_wrong kind_of holds is_atomic is_target depth_of collapse_from uses_of uses_from line_fault line_breaks line_wrong line_enter line_advance line_place line_first_broken line_first_wrong piece_on_line lexemes_from
without_a_first = refl

without_a_second : fault (codes "x = y ? 1 : ;" ∷ []) ≡ at UnknownByte 2 7
unfolding called defined parameters arguments index_len number_of hex_number_of number_piece sign_one sign_two sign_three changing_sign sign_at format_at piece_at comment_end_from is_include after tokens_from word_of is_omp expression line_from clauses_from worked in_blocks typed printed undefined all_read initialized in_full run enter breaks wrong sort_of advance place_code first_broken first_wrong kind_of holds is_atomic is_target depth_of collapse_from uses_of uses_from line_fault line_breaks line_wrong line_enter line_advance line_place line_first_broken line_first_wrong piece_on_line lexemes_from
without_a_second = refl

in_a_head : fault (codes "for (uint64_t i = x ? 2 : 3; i < 9; i++) A[i] = 1;" ∷ []) ≡ at Unexpected 2 19
unfolding called defined parameters arguments index_len number_of hex_number_of number_piece sign_one sign_two sign_three changing_sign sign_at format_at piece_at comment_end_from is_include after tokens_from word_of is_omp expression line_from clauses_from worked in_blocks typed printed undefined all_read initialized in_full run enter breaks wrong sort_of advance place_code first_broken first_wrong kind_of holds is_atomic is_target depth_of collapse_from uses_of uses_from line_fault line_breaks line_wrong line_enter line_advance line_place line_first_broken line_first_wrong piece_on_line lexemes_from
in_a_head = refl

in_a_choice : fault (codes "if (x ? 1 : 0) x = 1;" ∷ []) ≡ at UnknownByte 2 7
unfolding called defined parameters arguments index_len number_of hex_number_of number_piece sign_one sign_two sign_three changing_sign sign_at format_at piece_at comment_end_from is_include after tokens_from word_of is_omp expression line_from clauses_from worked in_blocks typed printed undefined all_read initialized in_full run enter breaks wrong sort_of advance place_code first_broken first_wrong kind_of holds is_atomic is_target depth_of collapse_from uses_of uses_from line_fault line_breaks line_wrong line_enter line_advance line_place line_first_broken line_first_wrong piece_on_line lexemes_from
in_a_choice = refl

a_length : fault (codes "uint64_t B[1 ? 2 : 3];" ∷ []) ≡ at Unexpected 2 11
unfolding called defined parameters arguments index_len number_of hex_number_of number_piece sign_one sign_two sign_three changing_sign sign_at format_at piece_at comment_end_from is_include after tokens_from word_of is_omp expression line_from clauses_from worked in_blocks typed printed undefined all_read initialized in_full run enter breaks wrong sort_of advance place_code first_broken first_wrong kind_of holds is_atomic is_target depth_of collapse_from uses_of uses_from line_fault line_breaks line_wrong line_enter line_advance line_place line_first_broken line_first_wrong piece_on_line lexemes_from
a_length = refl

a_constant : fault (codes "const uint64_t n = y ? 1 : 2;" ∷ []) ≡ at Undeclared 2 1
unfolding called defined parameters arguments index_len number_of hex_number_of number_piece sign_one sign_two sign_three changing_sign sign_at format_at piece_at comment_end_from is_include after tokens_from word_of is_omp expression line_from clauses_from worked in_blocks typed printed undefined all_read initialized in_full run enter breaks wrong sort_of advance place_code first_broken first_wrong kind_of holds is_atomic is_target depth_of collapse_from uses_of uses_from line_fault line_breaks line_wrong line_enter line_advance line_place line_first_broken line_first_wrong piece_on_line lexemes_from
a_constant = refl

a_return : fault (codes "return x ? 1 : 0;" ∷ []) ≡ at Undeclared 2 1
unfolding called defined parameters arguments index_len number_of hex_number_of number_piece sign_one sign_two sign_three changing_sign sign_at format_at piece_at comment_end_from is_include after tokens_from word_of is_omp expression line_from clauses_from worked in_blocks typed printed undefined all_read initialized in_full run enter breaks wrong sort_of advance place_code first_broken first_wrong kind_of holds is_atomic is_target depth_of collapse_from uses_of uses_from line_fault line_breaks line_wrong line_enter line_advance line_place line_first_broken line_first_wrong piece_on_line lexemes_from
a_return = refl

alone_there : fault (codes "?" ∷ []) ≡ at UnknownByte 2 1
unfolding called defined parameters arguments index_len number_of hex_number_of number_piece sign_one sign_two sign_three changing_sign sign_at format_at piece_at comment_end_from is_include after tokens_from word_of is_omp expression line_from clauses_from worked in_blocks typed printed undefined all_read initialized in_full run enter breaks wrong sort_of advance place_code first_broken first_wrong kind_of holds is_atomic is_target depth_of collapse_from uses_of uses_from line_fault line_breaks line_wrong line_enter line_advance line_place line_first_broken line_first_wrong piece_on_line lexemes_from
alone_there = refl

no_assignment : fault (codes "A[x ? 1 : 2];" ∷ []) ≡ at UnknownByte 2 5
unfolding called defined parameters arguments index_len number_of hex_number_of number_piece sign_one sign_two sign_three changing_sign sign_at format_at piece_at comment_end_from is_include after tokens_from word_of is_omp expression line_from clauses_from worked in_blocks typed printed undefined all_read initialized in_full run enter breaks wrong sort_of advance place_code first_broken first_wrong kind_of holds is_atomic is_target depth_of collapse_from uses_of uses_from line_fault line_breaks line_wrong line_enter line_advance line_place line_first_broken line_first_wrong piece_on_line lexemes_from
no_assignment = refl

of_an_unknown_function : fault (codes "g(x ? 1 : 2);" ∷ []) ≡ at Undeclared 2 1
unfolding called defined parameters arguments index_len number_of hex_number_of number_piece sign_one sign_two sign_three changing_sign sign_at format_at piece_at comment_end_from is_include after tokens_from word_of is_omp expression line_from clauses_from worked in_blocks typed printed undefined all_read initialized in_full run enter breaks wrong sort_of advance place_code first_broken first_wrong kind_of holds is_atomic is_target depth_of collapse_from uses_of uses_from line_fault line_breaks line_wrong line_enter line_advance line_place line_first_broken line_first_wrong piece_on_line lexemes_from
of_an_unknown_function = refl

its_own_name : fault (codes "uint64_t n = n ? 1 : 2;" ∷ []) ≡ at Undeclared 2 14
unfolding called defined parameters arguments index_len number_of hex_number_of number_piece sign_one sign_two sign_three changing_sign sign_at format_at piece_at comment_end_from is_include after tokens_from word_of is_omp expression line_from clauses_from worked in_blocks typed printed undefined all_read initialized in_full run enter breaks wrong sort_of advance place_code first_broken first_wrong kind_of holds is_atomic is_target depth_of collapse_from uses_of uses_from line_fault line_breaks line_wrong line_enter line_advance line_place line_first_broken line_first_wrong piece_on_line lexemes_from
its_own_name = refl

of_an_unknown_name : fault (codes "z = x ? 1;" ∷ []) ≡ at Undeclared 2 1
unfolding called defined parameters arguments index_len number_of hex_number_of number_piece sign_one sign_two sign_three changing_sign sign_at format_at piece_at comment_end_from is_include after tokens_from word_of is_omp expression line_from clauses_from worked in_blocks typed printed undefined all_read initialized in_full run enter breaks wrong sort_of advance place_code first_broken first_wrong kind_of holds is_atomic is_target depth_of collapse_from uses_of uses_from line_fault line_breaks line_wrong line_enter line_advance line_place line_first_broken line_first_wrong piece_on_line lexemes_from
of_an_unknown_name = refl

a_change_by_one : fault (codes "x++ ? 1 : 2;" ∷ []) ≡ at Unexpected 2 2
unfolding called defined parameters arguments index_len number_of hex_number_of number_piece sign_one sign_two sign_three changing_sign sign_at format_at piece_at comment_end_from is_include after tokens_from word_of is_omp expression line_from clauses_from worked in_blocks typed printed undefined all_read initialized in_full run enter breaks wrong sort_of advance place_code first_broken first_wrong kind_of holds is_atomic is_target depth_of collapse_from uses_of uses_from line_fault line_breaks line_wrong line_enter line_advance line_place line_first_broken line_first_wrong piece_on_line lexemes_from
a_change_by_one = refl

in_a_list : fault (codes "print(A[x] ? 1 : 2;" ∷ []) ≡ at UnknownByte 2 12
unfolding called defined parameters arguments index_len number_of hex_number_of number_piece sign_one sign_two sign_three changing_sign sign_at format_at piece_at comment_end_from is_include after tokens_from word_of is_omp expression line_from clauses_from worked in_blocks typed printed undefined all_read initialized in_full run enter breaks wrong sort_of advance place_code first_broken first_wrong kind_of holds is_atomic is_target depth_of collapse_from uses_of uses_from line_fault line_breaks line_wrong line_enter line_advance line_place line_first_broken line_first_wrong piece_on_line lexemes_from
in_a_list = refl

in_a_bound : fault (codes "#pragma omp target map(tofrom: A[0:4 ? 2 : 3])" ∷ codes "{ x = 1; }" ∷ []) ≡ at UnknownByte 2 38
unfolding called defined parameters arguments index_len number_of hex_number_of number_piece sign_one sign_two sign_three changing_sign sign_at format_at piece_at comment_end_from is_include after tokens_from word_of is_omp expression line_from clauses_from worked in_blocks typed printed undefined all_read initialized in_full run enter breaks wrong sort_of advance place_code first_broken first_wrong kind_of holds is_atomic is_target depth_of collapse_from uses_of uses_from line_fault line_breaks line_wrong line_enter line_advance line_place line_first_broken line_first_wrong piece_on_line lexemes_from
in_a_bound = refl

outside : fault_in (codes "uint64_t x = 1 ? 2 : 3; int main() { }") ≡ at Unexpected 1 12
unfolding called defined parameters arguments index_len number_of hex_number_of number_piece sign_one sign_two sign_three changing_sign sign_at format_at piece_at comment_end_from is_include after tokens_from word_of is_omp expression line_from clauses_from worked in_blocks typed printed undefined all_read initialized in_full run enter breaks wrong sort_of advance place_code first_broken first_wrong kind_of holds is_atomic is_target depth_of collapse_from uses_of uses_from line_fault line_breaks line_wrong line_enter line_advance line_place line_first_broken line_first_wrong piece_on_line lexemes_from
outside = refl

nothing_else : fault_in (codes "?") ≡ at UnknownByte 1 1
unfolding called defined parameters arguments index_len number_of hex_number_of number_piece sign_one sign_two sign_three changing_sign sign_at format_at piece_at comment_end_from is_include after tokens_from word_of is_omp expression line_from clauses_from worked in_blocks typed printed undefined all_read initialized in_full run enter breaks wrong sort_of advance place_code first_broken first_wrong kind_of holds is_atomic is_target depth_of collapse_from uses_of uses_from line_fault line_breaks line_wrong line_enter line_advance line_place line_first_broken line_first_wrong piece_on_line lexemes_from
nothing_else = refl

-- behind an atomic line stands an if, and no update
an_atomic_update : fault (codes "#pragma omp target teams distribute parallel for map(tofrom: A)" ∷ codes "for (uint64_t i = 0; i < 16; i++) {" ∷ codes "#pragma omp atomic" ∷ codes "A[0] += i ? 1 : 2;" ∷ codes "}" ∷ []) ≡ at UnknownClause 4 19
unfolding called defined parameters arguments index_len number_of hex_number_of number_piece sign_one sign_two sign_three changing_sign sign_at format_at piece_at comment_end_from is_include after tokens_from word_of is_omp expression line_from clauses_from worked in_blocks typed printed undefined all_read initialized in_full run enter breaks wrong sort_of advance place_code first_broken first_wrong kind_of holds is_atomic is_target depth_of collapse_from uses_of uses_from line_fault line_breaks line_wrong line_enter line_advance line_place line_first_broken line_first_wrong piece_on_line lexemes_from
an_atomic_update = refl

-- the place of a call has the body of its function
in_a_function : fault_in (codes "uint64_t x; uint64_t f(uint64_t a) { if (a ? 1 : 0) a = 1; return a; } int main() { x = f(x); }") ≡ at UnknownByte 1 44
unfolding called defined parameters arguments index_len number_of hex_number_of number_piece sign_one sign_two sign_three changing_sign sign_at format_at piece_at comment_end_from is_include after tokens_from word_of is_omp expression line_from clauses_from worked in_blocks typed printed undefined all_read initialized in_full run enter breaks wrong sort_of advance place_code first_broken first_wrong kind_of holds is_atomic is_target depth_of collapse_from uses_of uses_from line_fault line_breaks line_wrong line_enter line_advance line_place line_first_broken line_first_wrong piece_on_line lexemes_from
in_a_function = refl
