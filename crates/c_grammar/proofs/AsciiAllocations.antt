-- The names of the arrays that main allocates are ASCII.
use Rattle.std.proofs.Common.{ℕ, Bool, true, false, cond, List, [], ◌∷◌, ◌++◌, Option, Some, None}
use Rattle.std.specs.Prelude.{◌&&◌, not, reverse}
use Rattle.std.specs.Str.{IsAscii}
use Rattle.c_tokens.specs.declared.kind.Sign.TheVariants as sign
use Rattle.c_grammar.specs.Lexeme.{Uint64}
use Rattle.c_grammar.specs.Terminal.{Terminal, Fixed, Mark, Name, Num, Line, Unknown, Unworked, End, same}
use Rattle.c_grammar.specs.Texts.{Item}
use Rattle.c_grammar.specs.Blocks.{Items, at, is_directive, bare}
use Rattle.c_grammar.specs.Constants.{is_mark}
use Rattle.c_grammar.specs.Allocations.{Cells, Allocation, Reading, nothing_read, declaration, with_cells, called, or_all, skipped, cast, allocates, allocation, passed, kept, entered, opened, closed, allotted, given_up, is_allowed, is_freed, by_allocation, begins_main, at_statement, taken, next, all_read, joined, allocated}
use Rattle.c_grammar.specs.AsciiNames.{IsAsciiTerminal}
use Rattle.c_grammar.proofs.AsciiPresence.{guarded_text}
use Rattle.c_grammar.proofs.AsciiTokens.{AreItemsText, both_text, bare_text}

abbrev IsNameText : Option Allocation → Type 0
IsNameText None = Unit {0}
IsNameText (Some a) = IsAscii a.name

cells_text : (x : List ℕ) (i : Item Terminal) (o : Option Cells) → IsAscii x → IsNameText (with_cells x i o)
cells_text x i None h = tt
cells_text x i (Some c) h = h

named_text : (i : Item Terminal) (t : Terminal) (is : Items) → IsAsciiTerminal t → IsNameText (allocates i t is)
named_text i (Name x) is h = cells_text x i (called x (or_all (skipped cast is) is)) h
named_text i (Fixed w) is h = tt
named_text i (Mark s) is h = tt
named_text i (Num n) is h = tt
named_text i (Line ts) is h = tt
named_text i Unknown is h = tt
named_text i Unworked is h = tt
named_text i End is h = tt

allocation_text : (t : Item Terminal) (is : Items) → AreItemsText is → IsNameText (allocation t is)
allocation_text t [] h = tt
allocation_text t (s ∷ []) h = tt
allocation_text t (s ∷ x ∷ []) h = tt
allocation_text t (s ∷ x ∷ e ∷ is) h =
    go (same (Fixed Uint64) t.terminal && is_mark sign.Star s && is_mark sign.Equal e) (named_text x x.terminal is h.1.0)
  where
    go : (b : Bool) → IsNameText (allocates x x.terminal is) → IsNameText (cond b (allocates x x.terminal is) None)
    go true k = k
    go false k = tt

-- ---- all tokens

abbrev pub IsText : Reading → Type 0
IsText r = AreItemsText r.before × AreItemsText r.arrays × AreItemsText r.done

pub either : (b : Bool) (q r : Reading) → IsText q → IsText r → IsText (cond b q r)
either true q r h k = h
either false q r h k = k

pub more_text : (is : Items) (i : Item Terminal) → AreItemsText is → IsAsciiTerminal i.terminal → AreItemsText (is ++ i ∷ [])
more_text is i h k = both_text is (i ∷ []) h (k, tt)

pub kept_text : (i : Item Terminal) (r : Reading) → IsAsciiTerminal i.terminal → IsText r → IsText (kept i r)
kept_text i r h k = (k.0, k.1, more_text r.done i k.2 h)

pub opened_text : (i : Item Terminal) (r : Reading) → IsText r → IsText (opened i r)
opened_text i r k = (k.0, k.1, more_text r.done (at i (Mark sign.OpenBrace)) k.2 tt)

allotted_text : (i : Item Terminal) (a : Allocation) (r : Reading) → IsAscii a.name → IsText r → IsText (allotted i a r)
allotted_text i a r h k = (
  k.0,
  both_text r.arrays (declaration i a) k.1 (tt, (h, (tt, (tt, (tt, (tt, tt)))))),
  more_text r.done (at i (Mark sign.OpenBrace)) k.2 tt,
)

statement_text : (i : Item Terminal) (is : Items) (o : Option Allocation) (r : Reading) → IsAsciiTerminal i.terminal
    → IsNameText o → IsText r → IsText (by_allocation i is o r)
statement_text i is (Some a) r h n k =
    either (is_allowed a r) (allotted i a r) (given_up i r) (allotted_text i a r n k)
    (kept_text i (record r { inside = false }) h k)
statement_text i is None r h n k =
    either (is_freed r.names i is) (opened i r) (kept i r) (opened_text i r k) (kept_text i r h k)

taken_text : (i : Item Terminal) (is : Items) (r : Reading) → IsAsciiTerminal i.terminal → AreItemsText is → IsText r
    → IsText (taken i is r)
taken_text i is r h j k =
    either r.out _ _
    (either (is_mark sign.Semicolon i) (closed i r) r (k.0, k.1, more_text r.done (at i (Mark sign.CloseBrace)) k.2 tt) k)
    (either (at_statement r) _ _ (statement_text i is (allocation i is) r h (allocation_text i is j) k)
    (either (not r.inside && begins_main i is) (entered i r) (kept i r)
    (both_text r.before r.done k.0 k.2, k.1, (h, tt)) (kept_text i r h k)))

next_text : (i : Item Terminal) (is : Items) (r : Reading) → IsAsciiTerminal i.terminal → AreItemsText is → IsText r
    → IsText (next i is r)
next_text i is r h j k =
    either (is_directive i.terminal) (passed i r) (taken i (bare is) r) (k.0, k.1, more_text r.done i k.2 h)
    (taken_text i (bare is) r h (bare_text is j) k)

read_text : (is : Items) (r : Reading) → AreItemsText is → IsText r → IsText (all_read r is)
unfolding all_read
read_text [] r h k = k
read_text (i ∷ is) r h k = read_text is (next i is r) h.1 (next_text i is r h.0 h.1 k)

pub allocated_text : (is : Items) → AreItemsText is → AreItemsText (allocated is)
allocated_text is h =
    let r : Reading = all_read nothing_read is in
    let k : IsText r = read_text is nothing_read h (tt, tt, tt) in
    guarded_text (reverse r.names) (joined r) (both_text r.before (r.arrays ++ r.done) k.0 (both_text r.arrays r.done k.1 k.2))
