-- A line has its end, its columns, and the words of the directive, as before.
use Rattle.std.proofs.Common.{◌≡◌, ◌∙◌, ℕ, Bool, true, false, cond, List, [], ◌∷◌, refl, sym, ap, ap₂}
use Rattle.std.specs.Prelude.{◌&&◌}
use Rattle.std.specs.Borrow.{Bor}
use Rattle.c_grammar.specs.Devices.{Before, Block, Other, TheBracket, TheWord, behind_lexeme, closes, counts_devices, device_for, line_for, no_device, put_lexeme, put_lexemes, put_line}
use Rattle.c_grammar.specs.Lexeme.{Lexeme, Reserved, Signed, Worded, Numbered, Strange, Ended, Placed}
use Rattle.c_grammar.specs.Terminal.{Terminal, Line}
use Rattle.c_grammar.specs.Texts.{Item}
use Rattle.directives.specs.declared.line_tokens.LineTokens.{LineTokens}
use Rattle.directives.specs.Ahead.{seen_line}
use Rattle.directives.specs.Seen.{all_end_well, ends_well, is_empty, is_whole}
use Rattle.directives.specs.Spells.{columns_of, kinds_of}
use Rattle.c_terminals.specs.declared.token.Terminal.{Terminal as Given}
use Rattle.c_terminals.specs.declared.token.Terminal.TheVariants as given
use Rattle.c_terminals.specs.declared.token.Token.{Token}
use Rattle.c_terminals.specs.Seen.{item_at, seen, seen_terminal}
use Rattle.c_devices.specs.Lines.{line_placed, put_placed}

-- ---- the end

-- a token that is put ends the line as the one that was there
device_well : (bs : List Block) (t : Lexeme) (ts : List Lexeme) (over : Bool) →
    ends_well (device_for bs t ts) over ≡ ends_well t over
device_well bs (Worded x) ts over = go (closes ts && counts_devices bs x)
  where
    go : (b : Bool) → ends_well (cond b (Worded x) no_device) over ≡ ends_well (Worded x) over
    go true = refl
    go false = refl
device_well bs (Reserved w) ts over = refl
device_well bs (Signed s) ts over = refl
device_well bs (Numbered n) ts over = refl
device_well bs Strange ts over = refl
device_well bs Ended ts over = refl

put_well : (bs : List Block) (b : Before) (t : Lexeme) (ts : List Lexeme) (over : Bool) →
    ends_well (put_lexeme bs b t ts) over ≡ ends_well t over
put_well bs TheBracket t ts over = device_well bs t ts over
put_well bs TheWord t ts over = refl
put_well bs Other t ts over = refl

empty_same : (bs : List Block) (b : Before) (ps : List Placed) → is_empty (put_placed bs b ps) ≡ is_empty ps
empty_same bs b [] = refl
empty_same bs b (p ∷ ps) = refl

all_well : (ps : List Placed) (bs : List Block) (b : Before) → all_end_well (put_placed bs b ps) ≡ all_end_well ps
all_well [] bs b = refl
all_well (p ∷ ps) bs b =
    ap₂ (λ (x y : Bool). x && y)
    (ap (ends_well (put_lexeme bs b p.lexeme (kinds_of ps))) (empty_same bs (behind_lexeme b p.lexeme) ps)
    ∙ put_well bs b p.lexeme (kinds_of ps) (is_empty ps))
    (all_well ps bs (behind_lexeme b p.lexeme))

pub line_whole : (bs : List Block) (ps : List Placed) → is_whole (line_placed bs ps) ≡ is_whole ps
line_whole bs [] = refl
line_whole bs (p ∷ []) = refl
line_whole bs (p ∷ q ∷ ps) =
    ap₂ (λ (e w : Bool). ends_well p.lexeme false && (ends_well q.lexeme e && w))
    (empty_same bs Other ps) (all_well ps bs Other)

-- ---- the kinds and the columns

kinds_put : (ps : List Placed) (bs : List Block) (b : Before) → kinds_of (put_placed bs b ps) ≡ put_lexemes bs b (kinds_of ps)
kinds_put [] bs b = refl
kinds_put (p ∷ ps) bs b =
    ap (λ (ts : List Lexeme). put_lexeme bs b p.lexeme (kinds_of ps) ∷ ts) (kinds_put ps bs (behind_lexeme b p.lexeme))

columns_put : (ps : List Placed) (bs : List Block) (b : Before) → columns_of (put_placed bs b ps) ≡ columns_of ps
columns_put [] bs b = refl
columns_put (p ∷ ps) bs b = ap (λ (cs : List ℕ). p.column ∷ cs) (columns_put ps bs (behind_lexeme b p.lexeme))

line_kinds : (bs : List Block) (ps : List Placed) → kinds_of (line_placed bs ps) ≡ put_line bs (kinds_of ps)
line_kinds bs [] = refl
line_kinds bs (p ∷ []) = refl
line_kinds bs (p ∷ q ∷ ps) = ap (λ (ts : List Lexeme). p.lexeme ∷ q.lexeme ∷ ts) (kinds_put ps bs Other)

line_columns : (bs : List Block) (ps : List Placed) → columns_of (line_placed bs ps) ≡ columns_of ps
line_columns bs [] = refl
line_columns bs (p ∷ []) = refl
line_columns bs (p ∷ q ∷ ps) = ap (λ (cs : List ℕ). p.column ∷ q.column ∷ cs) (columns_put ps bs Other)

-- ---- the token

abbrev pub line_item : Token → List Placed → Item Terminal
line_item t ps = record { terminal = Line (kinds_of ps); line = t.line; column = t.column; columns = columns_of ps }

put_item : (bs : List Block) (t : Token) (ls : List Placed) →
    line_item t (line_placed bs ls) ≡ line_for bs (line_item t ls) (Line (kinds_of ls))
put_item bs t ls = λ k. record {
  terminal = Line (line_kinds bs ls k);
  line = t.line;
  column = t.column;
  columns = line_columns bs ls k;
}

pub line_put : (bs : List Block) (t : Token) (l : Bor LineTokens) (qs : List Placed) → t.terminal ≡ given.Line l →
    qs ≡ line_placed bs (seen_line l.now) → line_item t qs ≡ line_for bs (seen t) (seen_terminal t.terminal)
line_put bs t l qs e g =
    ap (line_item t) g ∙ put_item bs t (seen_line l.now)
    ∙ sym (ap (λ (g : Given). line_for bs (item_at t g) (seen_terminal g)) e)
