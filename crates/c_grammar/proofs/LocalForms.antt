-- What is answered of sources with local arrays, and what they are written out as, by computation.
use Rattle.std.proofs.Common.{◌≡◌, ℕ, List, [], ◌∷◌, ◌++◌, map, Option, Some, None, refl}
use Rattle.std.specs.Prelude.{codes}
use Rattle.base.specs.declared.fault.TextFault.{TextFault}
use Rattle.base.specs.declared.fault.ReadCode.{ReadCode as Code}
use Rattle.base.specs.declared.fault.ReadCode.TheVariants.{Unexpected, Undeclared, UnknownClause, UnknownDirective}
use Rattle.c_tokens.specs.declared.kind.Sign.TheVariants as sign
use Rattle.c_tokens.specs.Text.{tokens_of}
use Rattle.c_tokens.specs.Piece.{number_of, hex_number_of, number_piece, sign_one, sign_two, sign_three, changing_sign, sign_at, format_at, piece_at, comment_end_from, is_include}
use Rattle.c_tokens.specs.Text.{after, tokens_from}
use Rattle.c_grammar.specs.Lexeme.{word_of, piece_on_line, lexemes_from}
use Rattle.c_grammar.specs.Lines.{is_omp, kind_of, holds, is_atomic, is_target, depth_of, collapse_from, uses_of, uses_from, line_fault}
use Rattle.c_grammar.specs.LineRules.{line_breaks, line_wrong, line_enter}
use Rattle.c_grammar.specs.LineMachine.{line_advance, line_place, line_first_broken, line_first_wrong}
use Rattle.c_grammar.specs.Expressions.{expression}
use Rattle.c_grammar.specs.Functions.{called, defined, arguments, index_len}
use Rattle.c_grammar.specs.FunctionHeads.{parameters}
use Rattle.c_grammar.specs.LineForms.{line_from}
use Rattle.c_grammar.specs.Constants.{worked, undefined}
use Rattle.c_grammar.specs.Changes.{in_full}
use Rattle.c_grammar.specs.Allocations.{all_read}
use Rattle.c_grammar.specs.Clauses.{clauses_from}
use Rattle.c_grammar.specs.Initial.{initialized}
use Rattle.c_grammar.specs.Blocks.{typed, in_blocks}
use Rattle.c_grammar.specs.Prints.{printed}
use Rattle.c_grammar.specs.Machine.{run}
use Rattle.c_grammar.specs.Rules.{enter, breaks, wrong, sort_of}
use Rattle.c_grammar.specs.Program.{advance, place_code, first_broken, first_wrong}
use Rattle.c_grammar.specs.Lexeme.{Uint64}
use Rattle.c_grammar.specs.Locals.{cell_names, in_scalars}
use Rattle.c_grammar.specs.Terminal.{Terminal, Fixed, Mark, Name, Num}
use Rattle.c_grammar.specs.Source.{fault_in, item_of, items_of}

abbrev at : Code → ℕ → ℕ → Option TextFault
at code line column = Some (record { code = code; line = line; column = column })

abbrev lines : List (List ℕ) → List ℕ
lines [] = []
lines (l ∷ ls) = l ++ (10 ∷ lines ls)

-- the lines of a block of main, behind the declarations of an array and two scalars
abbrev source : List (List ℕ) → List ℕ
source ls = lines (codes "uint64_t A[16], x, y; int main() { {" ∷ (ls ++ codes "} }" ∷ []))

abbrev fault : List (List ℕ) → Option TextFault
fault ls = fault_in (source ls)

abbrev tokens : List (List ℕ) → List Terminal
tokens ls = map (λ i. i.terminal) (items_of (source ls))

-- what one pass of them makes of a text by itself
abbrev scalars : List ℕ → List Terminal
scalars text = map (λ i. i.terminal) (in_scalars (map (item_of text) (tokens_of text)))

cells : scalars (codes "{ uint64_t t[2]; t[1]; }") ≡ Mark sign.OpenBrace ∷ Fixed Uint64 ∷ Name (codes "[000]") ∷ Mark sign.Equal ∷ Num (Some 0) ∷ Mark sign.Semicolon ∷ Fixed Uint64 ∷ Name (codes "[001]") ∷ Mark sign.Equal ∷ Num (Some 0) ∷ Mark sign.Semicolon ∷ Name (codes "[001]") ∷ Mark sign.Semicolon ∷ Mark sign.CloseBrace ∷ []
unfolding cell_names called defined parameters arguments index_len number_of hex_number_of number_piece sign_one sign_two sign_three changing_sign sign_at format_at piece_at comment_end_from is_include after tokens_from word_of is_omp expression line_from clauses_from worked in_blocks typed printed undefined all_read initialized in_full run enter breaks wrong sort_of advance place_code first_broken first_wrong kind_of holds is_atomic is_target depth_of collapse_from uses_of uses_from line_fault line_breaks line_wrong line_enter line_advance line_place line_first_broken line_first_wrong piece_on_line lexemes_from
cells = refl

values : tokens (codes "uint64_t t[3] = {7, A[x]}; y = t[2];" ∷ []) ≡ tokens (codes "uint64_t t[3]; t[0] = 7; t[1] = A[x]; y = t[2];" ∷ [])
unfolding cell_names called defined parameters arguments index_len number_of hex_number_of number_piece sign_one sign_two sign_three changing_sign sign_at format_at piece_at comment_end_from is_include after tokens_from word_of is_omp expression line_from clauses_from worked in_blocks typed printed undefined all_read initialized in_full run enter breaks wrong sort_of advance place_code first_broken first_wrong kind_of holds is_atomic is_target depth_of collapse_from uses_of uses_from line_fault line_breaks line_wrong line_enter line_advance line_place line_first_broken line_first_wrong piece_on_line lexemes_from
values = refl

all_zero : tokens (codes "uint64_t t[3] = { 0 };" ∷ []) ≡ tokens (codes "uint64_t t[3]; t[0] = 0;" ∷ [])
unfolding cell_names called defined parameters arguments index_len number_of hex_number_of number_piece sign_one sign_two sign_three changing_sign sign_at format_at piece_at comment_end_from is_include after tokens_from word_of is_omp expression line_from clauses_from worked in_blocks typed printed undefined all_read initialized in_full run enter breaks wrong sort_of advance place_code first_broken first_wrong kind_of holds is_atomic is_target depth_of collapse_from uses_of uses_from line_fault line_breaks line_wrong line_enter line_advance line_place line_first_broken line_first_wrong piece_on_line lexemes_from
all_zero = refl

turns : tokens (codes "uint64_t t[2]; for (int k = 0; k < 2; k++) t[k] = A[3 * k];" ∷ []) ≡ tokens (codes "uint64_t t[2]; { { t[0] = A[3 * 0]; } { t[1] = A[3 * 1]; } }" ∷ [])
unfolding cell_names called defined parameters arguments index_len number_of hex_number_of number_piece sign_one sign_two sign_three changing_sign sign_at format_at piece_at comment_end_from is_include after tokens_from word_of is_omp expression line_from clauses_from worked in_blocks typed printed undefined all_read initialized in_full run enter breaks wrong sort_of advance place_code first_broken first_wrong kind_of holds is_atomic is_target depth_of collapse_from uses_of uses_from line_fault line_breaks line_wrong line_enter line_advance line_place line_first_broken line_first_wrong piece_on_line lexemes_from
turns = refl

sums : tokens (codes "uint64_t t[8]; for (int k = 0; k < 2; k++) x = t[2 * k + 1] + t[7 - k] + t[(k + 1) % 2];" ∷ []) ≡ tokens (codes "uint64_t t[8]; { { x = t[1] + t[7] + t[1]; } { x = t[3] + t[6] + t[0]; } }" ∷ [])
unfolding cell_names called defined parameters arguments index_len number_of hex_number_of number_piece sign_one sign_two sign_three changing_sign sign_at format_at piece_at comment_end_from is_include after tokens_from word_of is_omp expression line_from clauses_from worked in_blocks typed printed undefined all_read initialized in_full run enter breaks wrong sort_of advance place_code first_broken first_wrong kind_of holds is_atomic is_target depth_of collapse_from uses_of uses_from line_fault line_breaks line_wrong line_enter line_advance line_place line_first_broken line_first_wrong piece_on_line lexemes_from
sums = refl

loops_in_loops : tokens (codes "uint64_t t[2], u[2]; for (int j = 0; j < 2; j++) for (int k = 0; k < 2; k++) t[j] = u[k];" ∷ []) ≡ tokens (codes "uint64_t t[2], u[2]; { { { { t[0] = u[0]; } { t[0] = u[1]; } } } { { { t[1] = u[0]; } { t[1] = u[1]; } } } }" ∷ [])
unfolding cell_names called defined parameters arguments index_len number_of hex_number_of number_piece sign_one sign_two sign_three changing_sign sign_at format_at piece_at comment_end_from is_include after tokens_from word_of is_omp expression line_from clauses_from worked in_blocks typed printed undefined all_read initialized in_full run enter breaks wrong sort_of advance place_code first_broken first_wrong kind_of holds is_atomic is_target depth_of collapse_from uses_of uses_from line_fault line_breaks line_wrong line_enter line_advance line_place line_first_broken line_first_wrong piece_on_line lexemes_from
loops_in_loops = refl

another_loop_stays : tokens (codes "uint64_t t[2]; for (int j = 0; j < 2; j++) { for (int k = 0; k < 2; k++) t[k] = j; }" ∷ []) ≡ tokens (codes "uint64_t t[2]; for (int j = 0; j < 2; j++) { { { t[0] = j; } { t[1] = j; } } }" ∷ [])
unfolding cell_names called defined parameters arguments index_len number_of hex_number_of number_piece sign_one sign_two sign_three changing_sign sign_at format_at piece_at comment_end_from is_include after tokens_from word_of is_omp expression line_from clauses_from worked in_blocks typed printed undefined all_read initialized in_full run enter breaks wrong sort_of advance place_code first_broken first_wrong kind_of holds is_atomic is_target depth_of collapse_from uses_of uses_from line_fault line_breaks line_wrong line_enter line_advance line_place line_first_broken line_first_wrong piece_on_line lexemes_from
another_loop_stays = refl

two_scopes : tokens (codes "{ uint64_t t[1]; t[0] = 1; } { uint64_t t[2]; t[1] = 1; }" ∷ []) ≡ tokens (codes "{ uint64_t t[1]; t[0] = 1; } { uint64_t u[2]; u[1] = 1; }" ∷ [])
unfolding cell_names called defined parameters arguments index_len number_of hex_number_of number_piece sign_one sign_two sign_three changing_sign sign_at format_at piece_at comment_end_from is_include after tokens_from word_of is_omp expression line_from clauses_from worked in_blocks typed printed undefined all_read initialized in_full run enter breaks wrong sort_of advance place_code first_broken first_wrong kind_of holds is_atomic is_target depth_of collapse_from uses_of uses_from line_fault line_breaks line_wrong line_enter line_advance line_place line_first_broken line_first_wrong piece_on_line lexemes_from
two_scopes = refl

is_read : fault (codes "uint64_t t[4] = {0}; uint64_t s = 0; for (uint64_t k = 0; k < 4; k++) { t[k] += A[k]; s += t[3 - k]; } print(s);" ∷ []) ≡ None
unfolding cell_names called defined parameters arguments index_len number_of hex_number_of number_piece sign_one sign_two sign_three changing_sign sign_at format_at piece_at comment_end_from is_include after tokens_from word_of is_omp expression line_from clauses_from worked in_blocks typed printed undefined all_read initialized in_full run enter breaks wrong sort_of advance place_code first_broken first_wrong kind_of holds is_atomic is_target depth_of collapse_from uses_of uses_from line_fault line_breaks line_wrong line_enter line_advance line_place line_first_broken line_first_wrong piece_on_line lexemes_from
is_read = refl

in_a_target : fault (codes "#pragma omp target teams distribute parallel for map(tofrom: A)" ∷ codes "for (int i = 0; i < 4; i++) { uint64_t t[2]; for (int k = 0; k < 2; k++) t[k] = A[i] + k; A[i] = t[1]; }" ∷ []) ≡ None
unfolding cell_names called defined parameters arguments index_len number_of hex_number_of number_piece sign_one sign_two sign_three changing_sign sign_at format_at piece_at comment_end_from is_include after tokens_from word_of is_omp expression line_from clauses_from worked in_blocks typed printed undefined all_read initialized in_full run enter breaks wrong sort_of advance place_code first_broken first_wrong kind_of holds is_atomic is_target depth_of collapse_from uses_of uses_from line_fault line_breaks line_wrong line_enter line_advance line_place line_first_broken line_first_wrong piece_on_line lexemes_from
in_a_target = refl

behind_the_last : fault (codes "uint64_t t[2]; t[2] = 0;" ∷ []) ≡ at Undeclared 2 16
unfolding cell_names called defined parameters arguments index_len number_of hex_number_of number_piece sign_one sign_two sign_three changing_sign sign_at format_at piece_at comment_end_from is_include after tokens_from word_of is_omp expression line_from clauses_from worked in_blocks typed printed undefined all_read initialized in_full run enter breaks wrong sort_of advance place_code first_broken first_wrong kind_of holds is_atomic is_target depth_of collapse_from uses_of uses_from line_fault line_breaks line_wrong line_enter line_advance line_place line_first_broken line_first_wrong piece_on_line lexemes_from
behind_the_last = refl

by_a_scalar : fault (codes "uint64_t t[2]; x = t[y];" ∷ []) ≡ at Undeclared 2 20
unfolding cell_names called defined parameters arguments index_len number_of hex_number_of number_piece sign_one sign_two sign_three changing_sign sign_at format_at piece_at comment_end_from is_include after tokens_from word_of is_omp expression line_from clauses_from worked in_blocks typed printed undefined all_read initialized in_full run enter breaks wrong sort_of advance place_code first_broken first_wrong kind_of holds is_atomic is_target depth_of collapse_from uses_of uses_from line_fault line_breaks line_wrong line_enter line_advance line_place line_first_broken line_first_wrong piece_on_line lexemes_from
by_a_scalar = refl

outside_of_its_block : fault (codes "{ uint64_t t[2]; } t[0] = 0;" ∷ []) ≡ at Undeclared 2 20
unfolding cell_names called defined parameters arguments index_len number_of hex_number_of number_piece sign_one sign_two sign_three changing_sign sign_at format_at piece_at comment_end_from is_include after tokens_from word_of is_omp expression line_from clauses_from worked in_blocks typed printed undefined all_read initialized in_full run enter breaks wrong sort_of advance place_code first_broken first_wrong kind_of holds is_atomic is_target depth_of collapse_from uses_of uses_from line_fault line_breaks line_wrong line_enter line_advance line_place line_first_broken line_first_wrong piece_on_line lexemes_from
outside_of_its_block = refl

line_in_turns : fault (codes "uint64_t t[2]; for (int k = 0; k < 2; k++) {" ∷ codes "#pragma omp target update to(A)" ∷ codes "t[k] = 0; }" ∷ []) ≡ at UnknownDirective 3 9
unfolding cell_names called defined parameters arguments index_len number_of hex_number_of number_piece sign_one sign_two sign_three changing_sign sign_at format_at piece_at comment_end_from is_include after tokens_from word_of is_omp expression line_from clauses_from worked in_blocks typed printed undefined all_read initialized in_full run enter breaks wrong sort_of advance place_code first_broken first_wrong kind_of holds is_atomic is_target depth_of collapse_from uses_of uses_from line_fault line_breaks line_wrong line_enter line_advance line_place line_first_broken line_first_wrong piece_on_line lexemes_from
line_in_turns = refl

too_many_cells : fault (codes "uint64_t t[257];" ∷ []) ≡ at Unexpected 2 11
unfolding cell_names called defined parameters arguments index_len number_of hex_number_of number_piece sign_one sign_two sign_three changing_sign sign_at format_at piece_at comment_end_from is_include after tokens_from word_of is_omp expression line_from clauses_from worked in_blocks typed printed undefined all_read initialized in_full run enter breaks wrong sort_of advance place_code first_broken first_wrong kind_of holds is_atomic is_target depth_of collapse_from uses_of uses_from line_fault line_breaks line_wrong line_enter line_advance line_place line_first_broken line_first_wrong piece_on_line lexemes_from
too_many_cells = refl

-- a target with nowait may use an array of a block when it has other numbers
behind_its_line : fault (codes "uint64_t t[2] = {1, 2};" ∷ codes "#pragma omp target nowait map(tofrom: A)" ∷ codes "{ A[0] = t[1]; }" ∷ codes "#pragma omp taskwait" ∷ []) ≡ at UnknownClause 3 13
unfolding cell_names called defined parameters arguments index_len number_of hex_number_of number_piece sign_one sign_two sign_three changing_sign sign_at format_at piece_at comment_end_from is_include after tokens_from word_of is_omp expression line_from clauses_from worked in_blocks typed printed undefined all_read initialized in_full run enter breaks wrong sort_of advance place_code first_broken first_wrong kind_of holds is_atomic is_target depth_of collapse_from uses_of uses_from line_fault line_breaks line_wrong line_enter line_advance line_place line_first_broken line_first_wrong piece_on_line lexemes_from
behind_its_line = refl

at_its_line : fault (codes "uint64_t t[2] = {1, 2};" ∷ codes "#pragma omp target map(tofrom: A)" ∷ codes "{ A[0] = t[1]; }" ∷ []) ≡ None
unfolding cell_names called defined parameters arguments index_len number_of hex_number_of number_piece sign_one sign_two sign_three changing_sign sign_at format_at piece_at comment_end_from is_include after tokens_from word_of is_omp expression line_from clauses_from worked in_blocks typed printed undefined all_read initialized in_full run enter breaks wrong sort_of advance place_code first_broken first_wrong kind_of holds is_atomic is_target depth_of collapse_from uses_of uses_from line_fault line_breaks line_wrong line_enter line_advance line_place line_first_broken line_first_wrong piece_on_line lexemes_from
at_its_line = refl

of_the_target : fault (codes "#pragma omp target nowait map(tofrom: A)" ∷ codes "{ uint64_t t[2] = {1, 2}; A[0] = t[1]; }" ∷ codes "#pragma omp taskwait" ∷ []) ≡ None
unfolding cell_names called defined parameters arguments index_len number_of hex_number_of number_piece sign_one sign_two sign_three changing_sign sign_at format_at piece_at comment_end_from is_include after tokens_from word_of is_omp expression line_from clauses_from worked in_blocks typed printed undefined all_read initialized in_full run enter breaks wrong sort_of advance place_code first_broken first_wrong kind_of holds is_atomic is_target depth_of collapse_from uses_of uses_from line_fault line_breaks line_wrong line_enter line_advance line_place line_first_broken line_first_wrong piece_on_line lexemes_from
of_the_target = refl
