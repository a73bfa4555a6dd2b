-- The tokens of a source as they stand.
use Rattle.std.proofs.Common.{◌≡◌, ◌∙◌, ℕ, List, [], ◌∷◌, ◌++◌, map, sym, ap, append_assoc}
use Rattle.std.proofs.lemmas.List.{append-nil}
use Rattle.c_tokens.specs.declared.kind.Token.{Token}
use Rattle.c_grammar.specs.Terminal.{Terminal}
use Rattle.c_grammar.specs.Texts.{Item}
use Rattle.c_grammar.specs.Blocks.{Items}
use Rattle.c_grammar.specs.Source.{item_of}
use Rattle.c_terminals.specs.declared.held.Written.{Written}
use Rattle.c_terminals.specs.declared.held.WrittenTerminal.{WrittenTerminal}
use Rattle.c_terminals.specs.Held.{columns_held, seen_held, seen_written, written_all}
use Rattle.c_terminals.proofs.Owning.{held_more}

-- a token is one of the source, if its terminal is
pub raw_item : (v : WrittenTerminal) (bytes : List ℕ) (t : Token) → seen_held v ≡ (item_of bytes t).terminal →
    columns_held v ≡ (item_of bytes t).columns →
    seen_written (record { terminal = v; line = t.line; column = t.column }) ≡ item_of bytes t
raw_item v bytes t e f =
    ap (λ (x : Terminal). record { terminal = x; line = t.line; column = t.column; columns = columns_held v }) e
    ∙ ap (λ (cs : List ℕ). record { terminal = (item_of bytes t).terminal; line = t.line; column = t.column; columns = cs }) f

-- the first of what is left is written
pub raw_more : (ws us : List Written) (w : Written) (ts rs : List Token) (t : Token) (bytes : List ℕ) → us ≡ ws ++ w ∷ [] →
    ts ≡ t ∷ rs → seen_written w ≡ item_of bytes t →
    written_all us ++ map (item_of bytes) rs ≡ written_all ws ++ map (item_of bytes) ts
raw_more ws us w ts rs t bytes e f g =
    ap (λ (vs : List Written). written_all vs ++ map (item_of bytes) rs) e
    ∙ ap (λ (is : Items). is ++ map (item_of bytes) rs) (held_more ws w)
    ∙ append_assoc (written_all ws) (seen_written w ∷ []) (map (item_of bytes) rs)
    ∙ ap (λ (i : Item Terminal). written_all ws ++ (i ∷ map (item_of bytes) rs)) g
    ∙ sym (ap (λ (us : List Token). written_all ws ++ map (item_of bytes) us) f)

-- nothing is left
pub raw_all : (is js : Items) (ts : List Token) (bytes : List ℕ) → ts ≡ [] → is ++ map (item_of bytes) ts ≡ js → is ≡ js
raw_all is js ts bytes e k = sym (append-nil is) ∙ ap (λ (us : List Token). is ++ map (item_of bytes) us) (sym e) ∙ k
