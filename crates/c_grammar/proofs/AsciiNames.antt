-- The names of a source are ASCII.
use Rattle.std.proofs.Common.{◌≡◌, ℕ, zero, suc, ◌+◌, ◌-◌, ◌<◌, Bool, true, false, cond, eqb, List, [], ◌∷◌, ◌++◌, length, map, take, drop, Option, Some, None, refl, sym, ap, subst, ◌∙◌, arith}
use Rattle.std.specs.Prelude.{◌&&◌, ◌==◌, not, nat_le, nat_lt, slice_index, codes}
use Rattle.std.specs.List.{prefix_len}
use Rattle.std.specs.Str.{IsAscii}
use Rattle.std.proofs.lemmas.List.{drop-drop}
use Rattle.std.proofs.lemmas.Bool.Decides.{nat_tests}
use Rattle.std.proofs.lemmas.Bool.{or_left}
use Rattle.c_tokens.specs.declared.kind.Sign.{Sign}
use Rattle.c_tokens.specs.declared.kind.Kind.{Kind}
use Rattle.c_tokens.specs.declared.kind.Kind.TheVariants as kind
use Rattle.c_tokens.specs.declared.kind.Mood.{Mood}
use Rattle.c_tokens.specs.declared.kind.Mood.TheVariants.{Fresh, Inside, AfterNumber}
use Rattle.c_tokens.specs.declared.kind.Piece.{Piece}
use Rattle.c_tokens.specs.declared.kind.Piece.TheVariants as piece
use Rattle.c_tokens.specs.declared.kind.Token.{Token}
use Rattle.c_tokens.specs.Piece.{is_blank, is_not_feed, is_include, after_blank, comment_end, mark_at, starts_with_byte, is_name_start, is_name_part, is_digit, piece_at, number_of, hex_number_of, hex_part, is_hexadecimal, is_hex_digit, decimal_len, decimal_piece, number_in, number_piece, name_piece, line_piece, comment_piece, sign_at, sign_piece}
use Rattle.c_tokens.specs.Text.{Place, start, after, after_kind, token_at, unknown_at, given, tokens_from, tokens_of}
use Rattle.c_grammar.specs.Lexeme.{Word, word_of, Lexeme, Placed, For, lexeme_of, lexemes_from, lexemes_of, piece_on_line, placed, reserved_or_not}
use Rattle.c_grammar.specs.Terminal.{Terminal, Fixed, Mark, Name, Num, Line, Unknown, Unworked, End, same}
use Rattle.c_grammar.specs.Texts.{Item}
use Rattle.c_grammar.specs.Lines.{is_omp}
use Rattle.c_grammar.specs.Expressions.{Items, Values, value_of, number_for, Worked, Number, Fault, placed_of}
use Rattle.c_tokens.specs.declared.kind.Sign.TheVariants as sign
use Rattle.c_grammar.specs.Changes as changes
use Rattle.c_grammar.specs.Changes.{With, ByNumber, ByOne}
use Rattle.c_grammar.specs.Blocks as blocks
use Rattle.c_grammar.specs.Blocks.{is_directive, bare, at, type_at, type_on, typed, longs, Open, Around, Reading, nothing_read, with_open, begins_body, begins_update, is_atomic_line, line_in_block, is_else, is_name, Ends, ends, left, is_end, braces_at, parted, in_blocks}
use Rattle.c_grammar.specs.Nesting.{nested}
use Rattle.c_grammar.specs.Sequences.{in_parts}
use Rattle.c_grammar.specs.Macros.{replaced}
use Rattle.c_grammar.specs.DeclaredFunctions.{begins_part, ends_part, has_functions, undeclared}
use Rattle.c_grammar.specs.Needless.{needed}
use Rattle.c_grammar.specs.Types.{of_one_type}
use Rattle.c_grammar.specs.Prints.{is_text, text_len, alone, print_at, print_on, printed, stays}
use Rattle.c_grammar.specs.Constants.{with_tokens, line_tokens, put_item, Definition, Defines, Misdefines, definition, at_wanted, wanted, Names, undefined, definition_len, drop_on, leave_on, work_on, Onward, plain, expressed, read_on, worked}
use Rattle.c_grammar.specs.Initial as globals
use Rattle.c_grammar.specs.Initial.{Globals, Initial, initialized, no_globals}
use Rattle.c_grammar.specs.Allocations.{allocated}
use Rattle.c_grammar.specs.Boxes.{announced, boxed}
use Rattle.c_grammar.specs.Source.{text_of, word_or_name, kind_terminal, on_line, item_of, end_of, written_out, items_of}
use Rattle.c_grammar.specs.AsciiNames.{IsAsciiTerminal, AreAscii, terminals_of}
use Rattle.c_grammar.specs.Functions.{expanded}
use Rattle.c_grammar.specs.Pointers.{pointed}
use Rattle.c_grammar.specs.Loops.{looped}
use Rattle.c_grammar.specs.Triangles.{rectangular}
use Rattle.c_grammar.specs.Structs.{in_rows}
use Rattle.c_grammar.specs.Choices.{chosen}
use Rattle.c_grammar.specs.Conditions.{decided}
use Rattle.c_grammar.specs.Grids.{flat}
use Rattle.c_grammar.specs.Counters.{counted}
use Rattle.c_grammar.specs.Descents.{upward}
use Rattle.c_grammar.specs.MainArrays.{lifted}
use Rattle.c_grammar.specs.Locals.{in_scalars}
use Rattle.c_grammar.specs.Privates.{owned}
use Rattle.c_grammar.specs.Shared.{apart, awaited, unshared}
use Rattle.c_grammar.specs.Lasting.{lasting}
use Rattle.c_grammar.specs.Unset.{zeroed}
use Rattle.c_grammar.specs.Declarations.{Other, settled}
use Rattle.c_grammar.specs.Updates.{Outside, commuting}
use Rattle.c_grammar.proofs.AsciiTokens.{AreItemsText, chosen_text, both_text, bare_text}
use Rattle.c_grammar.proofs.AsciiNesting.{nested_text}
use Rattle.c_grammar.proofs.AsciiSequences.{parts_text}
use Rattle.c_grammar.proofs.AsciiLoops.{looped_text}
use Rattle.c_grammar.proofs.AsciiTriangles.{rectangular_text}
use Rattle.c_grammar.proofs.AsciiStructs.{rows_text}
use Rattle.c_grammar.proofs.AsciiNeedless.{needed_text}
use Rattle.c_grammar.proofs.AsciiTypes.{types_text}
use Rattle.c_grammar.proofs.AsciiChoices.{chosen_text as choices_text}
use Rattle.c_grammar.proofs.AsciiConditions.{decided_text}
use Rattle.c_grammar.proofs.AsciiMacros.{AreLexemesText, AreWholeText, IsLexemeText, IsLineText, replaced_text}
use Rattle.c_grammar.proofs.AsciiGrids.{flat_text}
use Rattle.c_grammar.proofs.AsciiLasting.{lasting_text}
use Rattle.c_grammar.proofs.AsciiCounters.{counted_text, zeroed_text}
use Rattle.c_grammar.proofs.AsciiDescents.{upward_text}
use Rattle.c_grammar.proofs.AsciiDevices.{devices_text}
use Rattle.c_grammar.proofs.AsciiMainArrays.{lifted_text}
use Rattle.c_grammar.proofs.AsciiLocals.{scalars_are_text}
use Rattle.c_grammar.proofs.AsciiPrivates.{owned_text}
use Rattle.c_grammar.proofs.AsciiShared.{apart_text, awaited_text, unshared_text}
use Rattle.c_grammar.proofs.AsciiDeclarations.{settled_text}
use Rattle.c_grammar.proofs.AsciiUpdates.{commuting_text}
use Rattle.c_grammar.proofs.AsciiFunctions.{expanded_text}
use Rattle.c_grammar.proofs.AsciiPointers.{pointed_text}
use Rattle.c_grammar.proofs.AsciiAllocations.{allocated_text}
use Rattle.c_grammar.proofs.AsciiBoxes.{announced_text, boxed_text}

low : (b : ℕ) → is_name_part b ≡ true → b < 128
low b e = grind (arith, nat_tests)

-- the text of a name
pub text_prefix : (bs : List ℕ) → IsAscii (take (prefix_len is_name_part bs) bs)
text_prefix [] i = omega arith
text_prefix (b ∷ bs) i = step (is_name_part b) refl (text_prefix bs) i
  where
    front : (k : ℕ) → b < 128 → IsAscii (take k bs) → (i : ℕ) → slice_index (take (suc k) (b ∷ bs)) i < 128
    front k l h zero = l
    front k l h (suc i) = h i

    step : (t : Bool) → is_name_part b ≡ t → IsAscii (take (prefix_len is_name_part bs) bs) → (i : ℕ) → slice_index (take (prefix_len is_name_part (b ∷ bs)) (b ∷ bs)) i < 128
    step true e h i = (let one : 1 + prefix_len is_name_part bs ≡ suc (prefix_len is_name_part bs) = omega arith in rw (e, one) (front (prefix_len is_name_part bs) (low b e) h i))
    step false e h i = rw e (omega arith)

word_text : (x : List ℕ) (o : Option Word) → IsAscii x → IsAsciiTerminal (word_or_name x o)
word_text x None h = h
word_text x (Some w) h = tt

kind_text : (x : List ℕ) (ps : List Placed) (k : Kind) → (k ≡ kind.Name → IsAscii x) → IsAsciiTerminal (kind_terminal x ps k)
kind_text x ps kind.Name h = word_text x (word_of x) (h refl)
kind_text x ps (kind.Number n) h = tt
kind_text x ps kind.BadNumber h = tt
kind_text x ps (kind.Sign s) h = tt
kind_text x ps kind.Line h = tt
kind_text x ps kind.Unknown h = tt

-- the tokens have names of ASCII bytes
abbrev pub AreTokensText : List ℕ → List Token → Type 0
AreTokensText bytes ts = AreAscii (terminals_of (map (item_of bytes) ts ++ end_of bytes ∷ []))

token_text : (bytes : List ℕ) (t : Token) (ts : List Token) → (t.kind ≡ kind.Name → IsAscii (text_of bytes t)) → AreTokensText bytes ts → AreTokensText bytes (t ∷ ts)
token_text bytes t ts h k = (kind_text (text_of bytes t) (on_line bytes t t.kind) t.kind h, k)

no_name : (t : Bool) (n : ℕ) → cond t (kind.Number n) kind.BadNumber ≡ kind.Name → ⊥
no_name true n e = absurd cc
no_name false n e = absurd cc

number_no_name : (ds : List ℕ) → number_of ds ≡ kind.Name → ⊥
unfolding number_of
number_no_name ds e = no_name _ _ e

-- what is the text of a name when a piece is one
abbrev pub IsNamePiece : ℕ → List ℕ → Piece → Type 0
IsNamePiece b bs (piece.Token kind.Name n) = (is_name_part b ≡ true) × (n ≡ prefix_len is_name_part (b ∷ bs))
IsNamePiece b bs _ = Unit {0}

numbered_piece : (b : ℕ) (bs : List ℕ) (k : Kind) (n : ℕ) → (k ≡ kind.Name → ⊥) → IsNamePiece b bs (piece.Token k n)
numbered_piece b bs kind.Name n h = absurd (h refl)
numbered_piece b bs (kind.Number v) n h = tt
numbered_piece b bs kind.BadNumber n h = tt
numbered_piece b bs (kind.Sign s) n h = tt
numbered_piece b bs kind.Line n h = tt
numbered_piece b bs kind.Unknown n h = tt

chosen_piece : (b : ℕ) (bs : List ℕ) (t : Bool) (p q : Piece) → (t ≡ true → IsNamePiece b bs p) → (t ≡ false → IsNamePiece b bs q) → IsNamePiece b bs (cond t p q)
chosen_piece b bs true p q h k = h refl
chosen_piece b bs false p q h k = k refl

hex_no_name : (ds : List ℕ) → hex_number_of ds ≡ kind.Name → ⊥
unfolding hex_number_of
hex_no_name ds e = no_name _ _ e

decimal_no_name : (b : ℕ) (bs word : List ℕ) → IsNamePiece b bs (decimal_piece word)
decimal_no_name b bs word =
    let k : ℕ = prefix_len is_digit word in
    numbered_piece b bs (number_of (take k word)) (decimal_len k word) (number_no_name (take k word))

word_no_name : (b : ℕ) (bs word : List ℕ) (o : Option (List ℕ)) → IsNamePiece b bs (number_in word o)
word_no_name b bs word None = decimal_no_name b bs word
word_no_name b bs word (Some ds) =
    let hex : Kind = hex_number_of (take (prefix_len is_hex_digit ds) ds) in
    chosen_piece b bs (is_hexadecimal ds) (piece.Token hex (length word)) (decimal_piece word)
    (λ e. numbered_piece b bs hex (length word) (hex_no_name (take (prefix_len is_hex_digit ds) ds)))
    (λ e. decimal_no_name b bs word)

number_no_piece : (b : ℕ) (bs word : List ℕ) → IsNamePiece b bs (number_piece word)
unfolding number_piece
number_no_piece b bs word = word_no_name b bs word (hex_part word)

named_piece : (mood : Mood) (b : ℕ) (bs : List ℕ) → is_name_start b ≡ true → IsNamePiece b bs (name_piece mood (b ∷ bs))
named_piece Fresh b bs e = (or_left (is_name_start b) (is_digit b) e, refl)
named_piece Inside b bs e = (or_left (is_name_start b) (is_digit b) e, refl)
named_piece AfterNumber b bs e = tt

lined_piece : (mood : Mood) (b : ℕ) (bs : List ℕ) → IsNamePiece b bs (line_piece mood (b ∷ bs))
lined_piece Fresh b bs = chosen_piece b bs (is_include (drop 1 (b ∷ bs))) (piece.Layout (prefix_len is_not_feed (b ∷ bs)) Inside) (piece.Token kind.Line (prefix_len is_not_feed (b ∷ bs))) (λ e. tt {0}) (λ e. tt {0})
lined_piece Inside b bs = tt
lined_piece AfterNumber b bs = tt

signed_piece : (b : ℕ) (bs : List ℕ) (o : Option (Sign × ℕ)) → IsNamePiece b bs (sign_piece o)
signed_piece b bs None = tt
signed_piece b bs (Some s) = tt

commented_piece : (b : ℕ) (bs : List ℕ) (o : Option ℕ) → IsNamePiece b bs (comment_piece o)
commented_piece b bs None = tt
commented_piece b bs (Some n) = tt

pub piece_named : (mood : Mood) (b : ℕ) (bs : List ℕ) → IsNamePiece b bs (piece_at mood b bs)
unfolding piece_at
piece_named mood b bs =
    let all : List ℕ = b ∷ bs in
    let word : List ℕ = take (prefix_len is_name_part all) all in
    let number : Piece = number_piece word in
    let sixth : Piece = sign_piece (mark_at all) in
    let comment : Piece = comment_piece (comment_end (drop 1 bs)) in
    let fifth : Piece = cond (eqb b 47 && starts_with_byte 42 bs) comment sixth in
    let remark : Piece = piece.Layout (prefix_len is_not_feed all) Inside in
    let fourth : Piece = cond (eqb b 47 && starts_with_byte 47 bs) remark fifth in
    let third : Piece = cond (eqb b 35) (line_piece mood all) fourth in
    let second : Piece = cond (is_name_start b) (name_piece mood all) third in
    let first : Piece = cond (is_digit b) number second in
    chosen_piece b bs (is_blank b) (piece.Layout 1 (after_blank b mood)) first (λ e. tt {0})
    (λ e. chosen_piece b bs (is_digit b) number second (λ f. number_no_piece b bs word)
    (λ f. chosen_piece b bs (is_name_start b) (name_piece mood all) third (λ g. named_piece mood b bs g)
    (λ g. chosen_piece b bs (eqb b 35) (line_piece mood all) fourth (λ h. lined_piece mood b bs)
    (λ h. chosen_piece b bs (eqb b 47 && starts_with_byte 47 bs) remark fifth (λ i. tt {0})
    (λ i. chosen_piece b bs (eqb b 47 && starts_with_byte 42 bs) comment sixth (λ j. commented_piece b bs (comment_end (drop 1 bs)))
    (λ j. signed_piece b bs (mark_at all)))))))

pub after_at : (p : Place) (b : ℕ) → (after p b).at ≡ p.at + 1
unfolding after
after_at p b = step (eqb b 10) refl
  where
    step : (t : Bool) → eqb b 10 ≡ t → (after p b).at ≡ p.at + 1
    step true e = rw e refl
    step false e = rw e refl

pub next_rest : (bytes : List ℕ) (b : ℕ) (bs : List ℕ) (p : Place) → b ∷ bs ≡ drop p.at bytes → bs ≡ drop (after p b).at bytes
next_rest bytes b bs p e = ap (drop 1) e ∙ drop-drop 1 p.at bytes ∙ ap (λ (n : ℕ). drop n bytes) (sym (after_at p b))

name_text : (bytes : List ℕ) (b : ℕ) (bs : List ℕ) (p : Place) (n : ℕ) → b ∷ bs ≡ drop p.at bytes → is_name_part b ≡ true → n ≡ prefix_len is_name_part (b ∷ bs) → IsAscii (text_of bytes (token_at kind.Name n p))
name_text bytes b bs p n e i m =
    let first : prefix_len is_name_part (b ∷ bs) ≡ 1 + prefix_len is_name_part bs = rw i refl in
    let some : n ≡ 1 + prefix_len is_name_part bs = m ∙ first in
    let size : p.at + n - 1 - p.at + 1 ≡ n = omega (arith, some) in
    subst (λ (xs : List ℕ). IsAscii (take (p.at + n - 1 - p.at + 1) xs)) e (subst (λ (k : ℕ). IsAscii (take k (b ∷ bs))) (sym (size ∙ m)) (text_prefix (b ∷ bs)))

named_text : (bytes : List ℕ) (b : ℕ) (bs : List ℕ) (p : Place) (k : Kind) (n : ℕ) → b ∷ bs ≡ drop p.at bytes → IsNamePiece b bs (piece.Token k n) → k ≡ kind.Name → IsAscii (text_of bytes (token_at k n p))
named_text bytes b bs p kind.Name n e h w = name_text bytes b bs p n e h.0 h.1
named_text bytes b bs p (kind.Number v) n e h w = absurd cc
named_text bytes b bs p kind.BadNumber n e h w = absurd cc
named_text bytes b bs p (kind.Sign s) n e h w = absurd cc
named_text bytes b bs p kind.Line n e h w = absurd cc
named_text bytes b bs p kind.Unknown n e h w = absurd cc

unknown_text : (bytes : List ℕ) (t : Token) → kind.Unknown ≡ kind.Name → IsAscii (text_of bytes t)
unknown_text bytes t e = absurd cc

given_text : (bytes : List ℕ) (b : ℕ) (bs : List ℕ) (p : Place) (q : Piece) (go : ℕ → Mood → List Token) → b ∷ bs ≡ drop p.at bytes → IsNamePiece b bs q → ((k : ℕ) (m : Mood) → AreTokensText bytes (go k m)) → AreTokensText bytes (given q p go)
given_text bytes b bs p (piece.Layout n m) go e h r = r (n - 1) m
given_text bytes b bs p (piece.Token k n) go e h r = token_text bytes (token_at k n p) (go (n - 1) (after_kind k)) (named_text bytes b bs p k n e h) (r (n - 1) (after_kind k))
given_text bytes b bs p piece.Unknown go e h r = token_text bytes (unknown_at p) [] (unknown_text bytes (unknown_at p)) (tt, tt)

tokens_text : (bytes bs : List ℕ) (k : ℕ) (mood : Mood) (p : Place) → bs ≡ drop p.at bytes → AreTokensText bytes (tokens_from bs k mood p)
unfolding tokens_from
tokens_text bytes [] k mood p e = (tt, tt)
tokens_text bytes (b ∷ bs) (suc k) mood p e = tokens_text bytes bs k mood (after p b) (next_rest bytes b bs p e)
tokens_text bytes (b ∷ bs) zero mood p e = given_text bytes b bs p (piece_at mood b bs) (λ k m. tokens_from bs k m (after p b)) e (piece_named mood b bs) (λ k m. tokens_text bytes bs k m (after p b) (next_rest bytes b bs p e))

-- ---- lines

piece_named_on : (mood : Mood) (b : ℕ) (bs : List ℕ) → IsNamePiece b bs (piece_on_line mood b bs)
unfolding piece_on_line
piece_named_on mood b bs =
    let all : List ℕ = b ∷ bs in
    let number : Piece = number_piece (take (prefix_len is_name_part all) all) in
    let third : Piece = sign_piece (sign_at all) in
    let second : Piece = cond (is_name_start b) (name_piece mood all) third in
    let first : Piece = cond (is_digit b) number second in
    chosen_piece b bs (is_blank b) (piece.Layout 1 (after_blank b mood)) first (λ e. tt {0})
    (λ e. chosen_piece b bs (is_digit b) number second (λ f. number_no_piece b bs (take (prefix_len is_name_part all) all))
    (λ f. chosen_piece b bs (is_name_start b) (name_piece mood all) third (λ g. named_piece mood b bs g)
    (λ g. signed_piece b bs (sign_at all))))

-- the tokens of a line have names of ASCII bytes
abbrev ArePlacedText : List Placed → Type 0
ArePlacedText ps = AreLexemesText (map (λ p. p.lexeme) ps)

reserved_text : (x : List ℕ) (o : Option Word) → IsAscii x → IsLexemeText (reserved_or_not x o)
reserved_text x None h = h
reserved_text x (Some w) h = tt

lexeme_text : (b : ℕ) (bs : List ℕ) (k : Kind) (n : ℕ) → IsNamePiece b bs (piece.Token k n) →
    IsLexemeText (lexeme_of k (take n (b ∷ bs)))
lexeme_text b bs kind.Name n h =
    reserved_text (take n (b ∷ bs)) (word_of (take n (b ∷ bs)))
    (subst (λ (k : ℕ). IsAscii (take k (b ∷ bs))) (sym h.1) (text_prefix (b ∷ bs)))
lexeme_text b bs (kind.Number v) n h = tt
lexeme_text b bs kind.BadNumber n h = tt
lexeme_text b bs (kind.Sign s) n h = tt
lexeme_text b bs kind.Line n h = tt
lexeme_text b bs kind.Unknown n h = tt

on_columns_text : (b : ℕ) (bs : List ℕ) (c : ℕ) (q : Piece) (go : ℕ → Mood → List Placed) → IsNamePiece b bs q →
    ((k : ℕ) (m : Mood) → ArePlacedText (go k m)) → ArePlacedText (placed q (b ∷ bs) c go)
on_columns_text b bs c (piece.Layout n m) go h r = r (n - 1) m
on_columns_text b bs c (piece.Token k n) go h r = (lexeme_text b bs k n h, r (n - 1) (after_kind k))
on_columns_text b bs c piece.Unknown go h r = (tt, tt)

lexemes_text : (bs : List ℕ) (k : ℕ) (mood : Mood) (c : ℕ) → ArePlacedText (lexemes_from bs k mood c)
unfolding lexemes_from
lexemes_text [] k mood c = (tt, tt)
lexemes_text (b ∷ bs) (suc k) mood c = lexemes_text bs k mood (c + 1)
lexemes_text (b ∷ bs) zero mood c =
    on_columns_text b bs c (piece_on_line mood b bs) (λ k m. lexemes_from bs k m (c + 1)) (piece_named_on mood b bs)
    (λ k m. lexemes_text bs k m (c + 1))

line_of_text : (x : List ℕ) (ps : List Placed) (k : Kind) → ArePlacedText ps → IsLineText (kind_terminal x ps k)
line_of_text x ps kind.Name h = word_of_text (word_of x)
  where
    word_of_text : (o : Option Word) → IsLineText (word_or_name x o)
    word_of_text None = tt
    word_of_text (Some w) = tt
line_of_text x ps (kind.Number n) h = tt
line_of_text x ps kind.BadNumber h = tt
line_of_text x ps (kind.Sign s) h = tt
line_of_text x ps kind.Line h = h
line_of_text x ps kind.Unknown h = tt

on_line_text : (bytes : List ℕ) (t : Token) (k : Kind) → ArePlacedText (on_line bytes t k)
on_line_text bytes t kind.Line = lexemes_text (drop 1 (text_of bytes t)) 0 Inside (t.column + 1)
on_line_text bytes t kind.Name = tt
on_line_text bytes t (kind.Number n) = tt
on_line_text bytes t kind.BadNumber = tt
on_line_text bytes t (kind.Sign s) = tt
on_line_text bytes t kind.Unknown = tt

whole_text : (bytes : List ℕ) (ts : List Token) → AreItemsText (map (item_of bytes) ts) → AreWholeText (map (item_of bytes) ts)
whole_text bytes [] h = tt
whole_text bytes (t ∷ ts) h =
    ((h.0, line_of_text (text_of bytes t) (on_line bytes t t.kind) t.kind (on_line_text bytes t t.kind)), whole_text bytes ts h.1)

-- ---- constants

put_text : (vs : Values) (past : List Terminal) (i : Item Terminal) (t : Terminal) → i.terminal ≡ t → IsAsciiTerminal t
    → IsAsciiTerminal (put_item vs past i t).terminal
put_text vs past i (Name x) e h = go (value_of vs x)
  where
    go : (o : Option ℕ) → IsAsciiTerminal (number_for x o)
    go None = h
    go (Some n) = tt
put_text vs past i (Line ts) e h = go (is_omp ts)
  where
    go : (b : Bool) → IsAsciiTerminal (cond b (with_tokens i ts (line_tokens vs past (placed_of ts i.columns))) i).terminal
    go true = tt
    go false = subst (λ (t : Terminal). IsAsciiTerminal t) (sym e) h
put_text vs past i (Fixed w) e h = tt
put_text vs past i (Mark s) e h = tt
put_text vs past i (Num n) e h = tt
put_text vs past i Unknown e h = tt
put_text vs past i Unworked e h = tt
put_text vs past i End e h = tt

abbrev IsRestText : Onward → Type 0
IsRestText go = (vs : Values) (past : List Terminal) (k : ℕ) → AreItemsText (go vs past k)

plain_text : (vs : Values) (past : List Terminal) (i : Item Terminal) (go : Onward) → IsAsciiTerminal i.terminal
    → IsRestText go → AreItemsText (plain vs past i go)
plain_text vs past i go h r = (put_text vs past i i.terminal refl h, r _ _ _)

expressed_text : (vs : Values) (past : List Terminal) (i : Item Terminal) (o : Option Worked) (go : Onward)
    → IsAsciiTerminal i.terminal → IsRestText go → AreItemsText (expressed vs past i o go)
expressed_text vs past i None go h r = plain_text vs past i go h r
expressed_text vs past i (Some (Number k n)) go h r = (tt, r _ _ _)
expressed_text vs past i (Some (Fault k p)) go h r = (tt, r _ _ _)

read_text : (vs : Values) (past : List Terminal) (i : Item Terminal) (is : Items) (o : Option Definition) (go : Onward)
    → IsAsciiTerminal i.terminal → IsRestText go → AreItemsText (read_on vs past i is o go)
read_text vs past i is (Some (Defines x n)) go h r = r _ _ _
read_text vs past i is (Some (Misdefines p)) go h r = (tt, r _ _ _)
read_text vs past i is None go h r = expressed_text vs past i (at_wanted vs (i ∷ is) (wanted past)) go h r

work_text : (k : ℕ) (vs : Values) (past : List Terminal) (i : Item Terminal) (is : Items) (go : Onward)
    → IsAsciiTerminal i.terminal → IsRestText go → AreItemsText (work_on k vs past i is go)
work_text zero vs past i is go h r = read_text vs past i is (definition vs i i.terminal) go h r
work_text (suc k) vs past i is go h r = r _ _ _

-- working constants out leaves the names that are left as they are
worked_text : (is : Items) (vs : Values) (past : List Terminal) (k : ℕ) → AreItemsText is → AreItemsText (worked vs past k is)
unfolding worked
worked_text [] vs past k h = tt
worked_text (i ∷ is) vs past k h =
    chosen_text (is_directive i.terminal) _ _
    (put_text vs past i i.terminal refl h.0, worked_text is vs past k h.1)
    (work_text k vs past i (bare is) (λ vs past k. worked vs past k is) h.0 (λ vs past k. worked_text is vs past k h.1))

-- ---- blocks

braces_text : (n : ℕ) (i : Item Terminal) → AreItemsText (braces_at n i)
braces_text zero i = tt
braces_text (suc n) i = (tt, braces_text n i)

token_plain : (i : Item Terminal) (other : Bool) (r : Reading) (go : Reading → Items) → IsAsciiTerminal i.terminal
    → ((q : Reading) → AreItemsText (go q)) → AreItemsText (blocks.plain i other r go)
token_plain i other r go h k =
    let e : Ends = ends other (left r.levels i.terminal) in
    chosen_text (is_end r.levels i.terminal) _ _ (h, both_text (braces_at e.braces i) _ (braces_text e.braces i) (k _)) (h, k _)

token_parted : (i : Item Terminal) (is : Items) (r : Reading) (go : Reading → Items) → IsAsciiTerminal i.terminal
    → ((q : Reading) → AreItemsText (go q)) → AreItemsText (parted i is r go)
token_parted i is r go h k =
    chosen_text (r.declares && (r.brackets == 0) && same (Mark sign.Comma) i.terminal && is_name is) _ _ (tt, (tt, k r)) (token_plain i (is_else is) r go h k)

line_text : (i : Item Terminal) (is : Items) (r : Reading) (go : Reading → Items) → IsAsciiTerminal i.terminal →
    ((q : Reading) → AreItemsText (go q)) → AreItemsText (line_in_block i is r go)
line_text i [] r go h k = (h, k r)
line_text i (j ∷ js) r go h k =
    chosen_text (r.body && is_atomic_line i.terminal && begins_update j.terminal) _ _ (tt, (h, k _)) (h, k r)

blocks_text : (is : Items) (r : Reading) → AreItemsText is → AreItemsText (in_blocks r is)
unfolding in_blocks
blocks_text [] r h = tt
blocks_text (i ∷ is) r h =
    let go : Reading → Items = λ q. in_blocks q is in
    chosen_text (is_directive i.terminal) _ _ (line_text i (bare is) r go h.0 (λ q. blocks_text is q h.1))
    (chosen_text (r.body && begins_body i.terminal) _ _
    (tt, token_plain i (is_else (bare is)) (with_open (Around ∷ r.levels) false r) go h.0 (λ q. blocks_text is q h.1))
    (token_parted i (bare is) (with_open r.levels false r) go h.0 (λ q. blocks_text is q h.1)))

ended_text : (is : Items) (e : Item Terminal) → AreItemsText is → IsAsciiTerminal e.terminal → AreItemsText (is ++ e ∷ [])
ended_text [] e h k = (k, tt)
ended_text (i ∷ is) e h k = (h.0, ended_text is e h.1 k)

-- ---- types, calls of printf, definitions

type_text : (i : Item Terminal) (n : ℕ) (go : ℕ → Items) → IsAsciiTerminal i.terminal → ((k : ℕ) → AreItemsText (go k))
    → AreItemsText (type_at i n go)
type_text i zero go h k = (h, k 0)
type_text i (suc n) go h k =
    chosen_text (same (Name (codes "unsigned")) i.terminal) _ _ (tt, k (suc n)) (h, k 0)

type_on_text : (k : ℕ) (i : Item Terminal) (n : ℕ) (go : ℕ → Items) → IsAsciiTerminal i.terminal
    → ((k : ℕ) → AreItemsText (go k)) → AreItemsText (type_on k i n go)
type_on_text zero i n go h r = type_text i n go h r
type_on_text (suc k) i n go h r = r k

typed_text : (is : Items) (k : ℕ) → AreItemsText is → AreItemsText (typed k is)
unfolding typed
typed_text [] k h = tt
typed_text (i ∷ is) k h =
    chosen_text (is_directive i.terminal) _ _ (h.0, typed_text is k h.1)
    (type_on_text k i (longs (bare is)) (λ k. typed k is) h.0 (λ k. typed_text is k h.1))

alone_text : (i : Item Terminal) → IsAsciiTerminal i.terminal → IsAsciiTerminal (alone i).terminal
alone_text i h = go (is_text i.terminal)
  where
    go : (b : Bool) → IsAsciiTerminal (cond b (at i Unknown) i).terminal
    go true = tt
    go false = h

print_text : (i : Item Terminal) (n : ℕ) (go : ℕ → Items) → IsAsciiTerminal i.terminal → ((k : ℕ) → AreItemsText (go k))
    → AreItemsText (print_at i n go)
print_text i zero go h k = (alone_text i h, k 0)
print_text i (suc n) go h k =
    chosen_text (same (Name (codes "printf")) i.terminal) _ _ (tt, k (suc n)) (alone_text i h, k 0)

print_on_text : (k : ℕ) (i : Item Terminal) (n : ℕ) (go : ℕ → Items) → IsAsciiTerminal i.terminal
    → ((k : ℕ) → AreItemsText (go k)) → AreItemsText (print_on k i n go)
print_on_text zero i n go h r = print_text i n go h r
print_on_text (suc k) i n go h r =
    chosen_text (stays i.terminal) _ _ (h, r (suc k)) (r k)

printed_text : (is : Items) (k : ℕ) → AreItemsText is → AreItemsText (printed k is)
unfolding printed
printed_text [] k h = tt
printed_text (i ∷ is) k h =
    chosen_text (is_directive i.terminal) _ _ (h.0, printed_text is k h.1)
    (print_on_text k i (text_len (bare is)) (λ k. printed k is) h.0 (λ k. printed_text is k h.1))

drop_text : (ns : Names) (d : ℕ) (i : Item Terminal) (is : Items) (o : Option ℕ) (go : Names → ℕ → ℕ → Items)
    → IsAsciiTerminal i.terminal → ((ns : Names) (d k : ℕ) → AreItemsText (go ns d k)) → AreItemsText (drop_on ns d i is o go)
drop_text ns d i is None go h r = (h, r _ _ _)
drop_text ns d i is (Some k) go h r = chosen_text (nat_le d 1) _ _ (r _ _ _) (h, r _ _ _)

leave_text : (k : ℕ) (ns : Names) (d : ℕ) (i : Item Terminal) (is : Items) (go : Names → ℕ → ℕ → Items)
    → IsAsciiTerminal i.terminal → ((ns : Names) (d k : ℕ) → AreItemsText (go ns d k)) → AreItemsText (leave_on k ns d i is go)
leave_text zero ns d i is go h r = drop_text ns d i is (definition_len ns i.terminal is) go h r
leave_text (suc k) ns d i is go h r = r _ _ _

undefined_text : (is : Items) (ns : Names) (d k : ℕ) → AreItemsText is → AreItemsText (undefined ns d k is)
unfolding undefined
undefined_text [] ns d k h = tt
undefined_text (i ∷ is) ns d k h =
    chosen_text (is_directive i.terminal) _ _ (h.0, undefined_text is ns d k h.1)
    (leave_text k ns d i (bare is) (λ n d k. undefined n d k is) h.0 (λ n d k. undefined_text is n d k h.1))

-- ---- changes

abbrev GoesText : (changes.State → ℕ → Items) → Type 0
GoesText go = (q : changes.State) (k : ℕ) → AreItemsText q.since → AreItemsText (go q k)

reversed_text : (is js : Items) → AreItemsText is → AreItemsText js → AreItemsText (changes.reversed is js)
reversed_text [] js h k = k
reversed_text (i ∷ is) js h k = reversed_text is (i ∷ js) h.1 (h.0, k)

first_text : (is : Items) (i : Item Terminal) → AreItemsText is → IsAsciiTerminal i.terminal
    → IsAsciiTerminal (changes.first_of is i).terminal
first_text [] i h k = k
first_text (j ∷ js) i h k = h.0

assigned_text : (i : Item Terminal) (lv : Items) (op : Sign) (rest : Items) → AreItemsText lv → AreItemsText rest
    → AreItemsText (changes.assigned i lv op ++ rest)
assigned_text i lv op rest h k =
    (tt, both_text (lv ++ at i (Mark op) ∷ []) rest (both_text lv (at i (Mark op) ∷ []) h (tt, tt)) k)

kept_text : (i : Item Terminal) (s : changes.State) (go : changes.State → ℕ → Items) → IsAsciiTerminal i.terminal
    → AreItemsText s.since → GoesText go → AreItemsText (changes.kept i s go)
kept_text i s go h n r = (h, r _ 0 (chosen_text (changes.is_boundary i.terminal) [] (i ∷ s.since) tt (h, n)))

grouped_text : (i : Item Terminal) (lv : Items) (op : Sign) (is : Items) (go : changes.State → ℕ → Items) → AreItemsText lv
    → GoesText go → AreItemsText (changes.grouped i lv op is go)
grouped_text i lv op is go h r = assigned_text i lv op _ h (tt, r _ 0 tt)

changed_text : (i : Item Terminal) (lv : Items) (k : changes.Kind) (is : Items) (s : changes.State)
    (go : changes.State → ℕ → Items) → IsAsciiTerminal i.terminal → AreItemsText lv → AreItemsText s.since → GoesText go
    → AreItemsText (changes.changed i lv k is s go)
changed_text i lv (With op) is s go h l n r = grouped_text i lv op is go l r
changed_text i lv (ByNumber op) is s go h l n r =
    chosen_text (changes.is_number_ended is) _ _ (assigned_text i lv op _ l (r _ 0 tt)) (grouped_text i lv op is go l r)
changed_text i lv (ByOne op) is s go h l n r =
    chosen_text (changes.is_ended is) _ _ (assigned_text i lv op _ l (tt, r _ 0 tt)) (kept_text i s go h n r)

front_text : (i : Item Terminal) (k : changes.Kind) (is : Items) (s : changes.State) (go : changes.State → ℕ → Items)
    → IsAsciiTerminal i.terminal → AreItemsText s.since → GoesText go → AreItemsText (changes.at_front i k is s go)
front_text i (ByOne op) is s go h n r = chosen_text (changes.is_target_ended is) _ _ (r _ 0 tt) (kept_text i s go h n r)
front_text i (With op) is s go h n r = kept_text i s go h n r
front_text i (ByNumber op) is s go h n r = kept_text i s go h n r

target_text : (i : Item Terminal) (k : changes.Kind) (is : Items) (s : changes.State) (b : Bool)
    (go : changes.State → ℕ → Items) → IsAsciiTerminal i.terminal → AreItemsText s.since → GoesText go
    → AreItemsText (changes.by_target i k is s (cond b (Some (changes.reversed s.since [])) None) go)
target_text i k is s true go h n r =
    changed_text i (changes.reversed s.since []) k is s go h (reversed_text s.since [] n tt) n r
target_text i k is s false go h n r = kept_text i s go h n r

kind_text_of : (i : Item Terminal) (o : Option changes.Kind) (is : Items) (s : changes.State)
    (go : changes.State → ℕ → Items) → IsAsciiTerminal i.terminal → AreItemsText s.since → GoesText go
    → AreItemsText (changes.by_kind i o is s go)
kind_text_of i None is s go h n r = kept_text i s go h n r
kind_text_of i (Some k) is s go h n r =
    chosen_text (changes.is_empty s.since) _ _ (front_text i k is s go h n r)
    (target_text i k is s (changes.is_target (changes.reversed s.since [])) go h n r)

outside_text : (i : Item Terminal) (is : Items) (s : changes.State) (go : changes.State → ℕ → Items)
    → IsAsciiTerminal i.terminal → AreItemsText s.since → GoesText go → AreItemsText (changes.outside i is s go)
outside_text i is s go h n r =
    chosen_text (same (Fixed For) i.terminal) _ _ (h, r _ 0 tt)
    (chosen_text (changes.has_words i is s) _ _ (tt, r _ (changes.words_len is) (h, n))
    (chosen_text (changes.is_mark sign.CloseParen i && changes.is_main s.since) _ _ (tt, kept_text i s go h n r)
    (chosen_text (same (Name (codes "return")) i.terminal && changes.is_empty s.since && changes.is_last_return is) _ _
    (r s 2 n) (kind_text_of i (changes.kind_of i.terminal) is s go h n r))))

limit_text : (o : Option ℕ) → IsAsciiTerminal (changes.limit_token o)
limit_text None = tt
limit_text (Some n) = tt

limited_text : (i : Item Terminal) (is : Items) (n : ℕ) (s : changes.State) (o : Option (Option ℕ))
    (go : changes.State → ℕ → Items) → IsAsciiTerminal i.terminal → AreItemsText s.since → GoesText go
    → AreItemsText (changes.limited i is n s o go)
limited_text i is n s None go h q r = kept_text i s go h q r
limited_text i is n s (Some o) go h q r = (tt, (limit_text o, r _ 1 tt))

head_text : (n : ℕ) (i : Item Terminal) (is : Items) (s : changes.State) (go : changes.State → ℕ → Items)
    → IsAsciiTerminal i.terminal → AreItemsText is → AreItemsText s.since → GoesText go
    → AreItemsText (changes.in_head n i is s go)
head_text n i is s go h j q r =
    chosen_text (changes.is_mark sign.OpenParen i) _ _ (kept_text i (changes.in_state (changes.InHead (n + 1)) []) go h tt r)
    (chosen_text (changes.is_mark sign.CloseParen i) _ _ (h, r _ 0 tt)
    (chosen_text (changes.is_mark sign.LessEqual i) _ _ (limited_text i is n s (changes.limit_behind is) go h q r)
    (chosen_text (changes.is_mark sign.PlusPlus i && changes.closes_head is) _ _ (tt, (tt, r s 0 q))
    (chosen_text (changes.is_mark sign.PlusPlus i && changes.is_name_closed is) _ _
    (first_text is i j h, (tt, (tt, r s 1 q))) (kept_text i s go h q r)))))

group_text : (n : ℕ) (i : Item Terminal) (s : changes.State) (go : changes.State → ℕ → Items)
    → IsAsciiTerminal i.terminal → AreItemsText s.since → GoesText go → AreItemsText (changes.in_group n i s go)
group_text n i s go h q r =
    chosen_text (changes.is_mark sign.OpenParen i) _ _ (h, r _ 0 tt)
    (chosen_text (changes.is_mark sign.CloseParen i) _ _
    (chosen_text (nat_lt 0 n) _ _ (h, r _ 0 tt) (tt, (h, r _ 0 tt)))
    (chosen_text (changes.is_mark sign.Semicolon i) _ _ (tt, (h, r _ 0 tt))
    (chosen_text (changes.is_boundary i.terminal) _ _ (h, r _ 0 tt) (h, r s 0 q))))

behind_text : (op : Sign) (i : Item Terminal) (s : changes.State) (go : changes.State → ℕ → Items)
    → IsAsciiTerminal i.terminal → AreItemsText s.since → GoesText go → AreItemsText (changes.behind_front op i s go)
behind_text op i s go h q r =
    chosen_text (changes.is_mark sign.Semicolon i) _ _
    (assigned_text i (changes.reversed s.since []) op _ (reversed_text s.since [] q tt) (tt, (h, r _ 0 tt)))
    (kept_text i s go h q r)

placed_text : (p : changes.Where) (i : Item Terminal) (is : Items) (s : changes.State) (go : changes.State → ℕ → Items)
    → IsAsciiTerminal i.terminal → AreItemsText is → AreItemsText s.since → GoesText go
    → AreItemsText (changes.token p i is s go)
placed_text changes.Outside i is s go h j q r = outside_text i is s go h q r
placed_text (changes.InHead n) i is s go h j q r = head_text n i is s go h j q r
placed_text (changes.Grouped n) i is s go h j q r = group_text n i s go h q r
placed_text (changes.Behind op) i is s go h j q r = behind_text op i s go h q r

token_text_on : (k : ℕ) (s : changes.State) (i : Item Terminal) (is : Items) (go : changes.State → ℕ → Items)
    → IsAsciiTerminal i.terminal → AreItemsText is → AreItemsText s.since → GoesText go
    → AreItemsText (changes.token_on k s i is go)
token_text_on zero s i is go h j q r = placed_text s.place i is s go h j q r
token_text_on (suc k) s i is go h j q r = r s k q

full_text : (is : Items) (s : changes.State) (k : ℕ) → AreItemsText s.since → AreItemsText is
    → AreItemsText (changes.in_full s k is)
unfolding changes.in_full
full_text [] s k q h = tt
full_text (i ∷ is) s k q h =
    chosen_text (is_directive i.terminal) _ _ (h.0, full_text is s k q h.1)
    (token_text_on k s i (bare is) (λ s k. changes.in_full s k is) h.0 (bare_text is h.1) q (λ s k n. full_text is s k n h.1))

-- ---- initializers

abbrev AreSetsText : Option Initial → Type 0
AreSetsText None = Unit {0}
AreSetsText (Some f) = AreItemsText f.sets

picked_text : (b : Bool) (f g : Option Initial) → AreSetsText f → AreSetsText g → AreSetsText (cond b f g)
picked_text true f g h k = h
picked_text false f g h k = k

value_text : (x : List ℕ) (i : Item Terminal) (o : Option ℕ) → IsAscii x → AreSetsText (globals.scalar_valued x i o)
value_text x i None h = tt
value_text x i (Some n) h = (h, (tt, (tt, (tt, tt))))

scalar_text : (t : Terminal) (is : Items) → IsAsciiTerminal t → AreSetsText (globals.named_scalar t is)
scalar_text (Name x) [] h = tt
scalar_text (Name x) (n ∷ []) h = tt
scalar_text (Name x) (n ∷ s ∷ is) h =
    picked_text (changes.is_mark sign.Semicolon s) _ None (value_text x n (globals.value_of n.terminal) h) tt
scalar_text (Fixed w) is h = tt
scalar_text (Mark m) is h = tt
scalar_text (Num n) is h = tt
scalar_text (Line ts) is h = tt
scalar_text Unknown is h = tt
scalar_text Unworked is h = tt
scalar_text End is h = tt

cell_text : (x : List ℕ) (length k : ℕ) (sets : Items) (i s e : Item Terminal) (o : Option ℕ) (go : Items → Option Initial)
    → IsAscii x → AreItemsText sets → ((js : Items) → AreItemsText js → AreSetsText (go js))
    → AreSetsText (globals.cell_valued x length k sets i s e o go)
cell_text x length k sets i s e None go a h r = tt
cell_text x length k sets i s e (Some n) go a h r =
    let all : AreItemsText (sets ++ globals.cell_set x k i n) =
    both_text sets (globals.cell_set x k i n) h (a, (tt, (tt, (tt, (tt, (tt, (tt, tt))))))) in
    picked_text (nat_lt k length) _ None
    (picked_text (globals.ends_list s e) _ _ all
    (picked_text (changes.is_mark sign.Comma s) _ None (r (sets ++ globals.cell_set x k i n) all) tt)) tt

list_text : (x : List ℕ) (length k : ℕ) (sets is : Items) → IsAscii x → AreItemsText sets
    → AreSetsText (globals.list_initial x length k sets is)
list_text x length k sets [] a h = tt
list_text x length k sets (n ∷ []) a h = tt
list_text x length k sets (n ∷ s ∷ []) a h = tt
list_text x length k sets (n ∷ s ∷ e ∷ is) a h =
    cell_text x length k sets n s e (globals.value_of n.terminal) (λ js. globals.list_initial x length (k + 1) js (e ∷ is)) a h
    (λ js j. list_text x length (k + 1) js (e ∷ is) a j)

array_text : (t : Terminal) (o : Option ℕ) (is : Items) → IsAsciiTerminal t → AreSetsText (globals.named_array t o is)
array_text (Name x) (Some length) [] h = tt
array_text (Name x) (Some length) (o ∷ is) h =
    picked_text (changes.is_mark sign.OpenBrace o) _ None (list_text x length 0 [] is h tt) tt
array_text (Name x) None is h = tt
array_text (Fixed w) o is h = tt
array_text (Mark m) o is h = tt
array_text (Num n) o is h = tt
array_text (Line ts) o is h = tt
array_text Unknown o is h = tt
array_text Unworked o is h = tt
array_text End o is h = tt

initial_text : (since is : Items) → AreItemsText since → AreSetsText (globals.initial since is)
initial_text [] is h = tt
initial_text (t ∷ []) is h = tt
initial_text (t ∷ x ∷ []) is h = picked_text (globals.is_type t) _ None (scalar_text x.terminal is h.1.0) tt
initial_text (t ∷ x ∷ o ∷ []) is h = tt
initial_text (t ∷ x ∷ o ∷ n ∷ []) is h = tt
initial_text (t ∷ x ∷ o ∷ n ∷ c ∷ []) is h =
    picked_text (globals.is_type t) _ None (array_text x.terminal (globals.length_in o n c) is h.1.0) tt
initial_text (t ∷ x ∷ o ∷ n ∷ c ∷ d ∷ since) is h = tt

abbrev AreGlobalsText : Globals → Type 0
AreGlobalsText g = AreItemsText g.since × AreItemsText g.late

abbrev GlobalsGo : (Globals → ℕ → Items) → Type 0
GlobalsGo go = (g : Globals) (k : ℕ) → AreGlobalsText g → AreItemsText (go g k)

since_text : (b : Bool) (i : Item Terminal) (since : Items) → IsAsciiTerminal i.terminal → AreItemsText since
    → AreItemsText (cond b [] (since ++ i ∷ []))
since_text true i since h q = tt
since_text false i since h q = both_text since (i ∷ []) q (h, tt)

declared_text : (i : Item Terminal) (g : Globals) (go : Globals → ℕ → Items) → IsAsciiTerminal i.terminal → AreGlobalsText g
    → GlobalsGo go → AreItemsText (globals.declared i g go)
declared_text i g go h q r = (h, r _ 0 (since_text (changes.is_mark sign.Semicolon i) i g.since h q.0, q.1))

late_text : (i : Item Terminal) (g : Globals) (o : Option Initial) (go : Globals → ℕ → Items) → IsAsciiTerminal i.terminal
    → AreGlobalsText g → AreSetsText o → GlobalsGo go → AreItemsText (globals.set_late i g o go)
late_text i g None go h q p r = declared_text i g go h q r
late_text i g (Some f) go h q p r = r _ f.len (tt, both_text g.late f.sets q.1 p)

global_text : (k : ℕ) (g : Globals) (i : Item Terminal) (is : Items) (go : Globals → ℕ → Items) → IsAsciiTerminal i.terminal
    → AreGlobalsText g → GlobalsGo go → AreItemsText (globals.global_on k g i is go)
global_text (suc k) g i is go h q r = r g k q
global_text zero g i is go h q r =
    chosen_text g.inside _ _ (h, r g 0 q)
    (chosen_text (changes.is_mark sign.OpenBrace i) _ _
    (h, both_text g.late (go globals.in_main 0) q.1 (r globals.in_main 0 (tt, tt)))
    (chosen_text (changes.is_mark sign.Equal i) _ _
    (late_text i g (globals.initial g.since is) go h q (initial_text g.since is q.0) r) (declared_text i g go h q r)))

initialized_text : (is : Items) (g : Globals) (k : ℕ) → AreGlobalsText g → AreItemsText is
    → AreItemsText (initialized g k is)
unfolding initialized
initialized_text [] g k q h = tt
initialized_text (i ∷ is) g k q h =
    chosen_text (is_directive i.terminal) _ _ (h.0, initialized_text is g k q h.1)
    (global_text k g i (bare is) (λ g k. initialized g k is) h.0 q (λ g k n. initialized_text is g k n h.1))

undeclared_text : (is : Items) (inside : Bool) → AreItemsText is → AreItemsText (undeclared inside is)
undeclared_text [] inside h = tt
undeclared_text (i ∷ is) inside h =
    chosen_text (inside && ends_part i.terminal) _ _ (undeclared_text is false h.1)
    (chosen_text (not inside && begins_part i.terminal && has_functions 0 is) _ _ (undeclared_text is true h.1)
    (h.0, undeclared_text is inside h.1))

-- ---- all of it

written_text : (is : Items) → AreWholeText is → AreItemsText (written_out is)
written_text is h =
    let own : Items = in_parts (replaced is) in
    let calls : Items = printed 0 (nested own) in
    let types : Items = typed 0 calls in
    let needs : Items = needed types in
    let rows : Items = in_rows needs in
    let one_type : Items = of_one_type (undeclared false rows) in
    let whole : Items = in_blocks nothing_read one_type in
    let owning : Items = unshared whole in
    let loops : Items = counted owning in
    let upwards : Items = upward loops in
    let private : Items = owned upwards in
    let constant : Items = lasting private in
    let known : Items = settled Other (zeroed constant) in
    let numbered : Items = worked [] [] 0 known in
    let arrays : Items = pointed numbered in
    let decisions : Items = decided (expanded arrays) in
    let ended : Items = looped decisions in
    let straight : Items = rectangular ended in
    let global : Items = lifted straight in
    let waiting : Items = awaited global in
    let single : Items = in_scalars waiting in
    let branched : Items = chosen single in
    let plain : Items = undefined [] 0 0 branched in
    let cubes : Items = flat true [] [] [] 0 plain in
    let flattened : Items = flat false [] [] [] 0 cubes in
    let distinct : Items = apart flattened in
    let boxes : Items = boxed distinct in
    let cells : Items = commuting Outside boxes in
    devices_text (announced (changes.in_full changes.begin 0 (initialized no_globals 0 (allocated cells))))
    (announced_text (changes.in_full changes.begin 0 (initialized no_globals 0 (allocated cells)))
    (full_text (initialized no_globals 0 (allocated cells)) changes.begin 0 tt
    (initialized_text (allocated cells) no_globals 0 (tt, tt)
    (allocated_text cells (commuting_text boxes Outside (boxed_text distinct (apart_text flattened
    (flat_text cubes false [] [] [] 0 (flat_text plain true [] [] [] 0 (undefined_text branched [] 0 0
    (choices_text single (scalars_are_text waiting (awaited_text global (lifted_text straight (rectangular_text ended (looped_text decisions
    (decided_text (expanded arrays)
    (expanded_text (λ is h. worked_text is [] [] 0 h) arrays
    (pointed_text numbered (worked_text known [] [] 0 (settled_text (zeroed constant) Other (zeroed_text constant
    (lasting_text private (owned_text upwards (upward_text loops (counted_text owning (unshared_text whole
    (blocks_text one_type nothing_read (types_text (undeclared false rows) (undeclared_text rows false
    (rows_text needs (needed_text types (typed_text calls 0
    (printed_text (nested own) 0 (nested_text own (parts_text (replaced is) (replaced_text is h)))))))))))))))))))))))))))))))))))))

all_but : (is : Items) (e : Item Terminal) → AreItemsText (is ++ e ∷ []) → AreItemsText is
all_but [] e h = tt
all_but (i ∷ is) e h = (h.0, all_but is e h.1)

-- the names of a source are ASCII
pub names_are_ascii : (bytes : List ℕ) → AreAscii (terminals_of (items_of bytes))
names_are_ascii bytes =
    let raw : Items = map (item_of bytes) (tokens_of bytes) in
    let text : AreItemsText raw = all_but raw (end_of bytes) (tokens_text bytes bytes 0 Fresh start refl) in
    ended_text (written_out raw) (end_of bytes) (written_text raw (whole_text bytes (tokens_of bytes) text)) tt
