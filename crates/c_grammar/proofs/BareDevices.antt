-- Which devices loops count is asked of directive lines alone.
use Rattle.std.proofs.Common.{◌≡◌, ◌∙◌, Bool, true, false, cond, List, [], ◌∷◌, refl, sym, ap}
use Rattle.c_grammar.specs.Lexeme.{Lexeme}
use Rattle.c_grammar.specs.Lines.{is_omp}
use Rattle.c_grammar.specs.Terminal.{Terminal, Fixed, Mark, Name, Num, Line, Unknown, Unworked, End}
use Rattle.c_grammar.specs.Texts.{Item}
use Rattle.c_grammar.specs.Blocks.{Items, bare, is_directive}
use Rattle.c_grammar.specs.Devices.{Block, State, begin, behind, line_for, on_devices, on_devices_in, put_line}
use Rattle.c_grammar.proofs.BareTokens.{ArePlain, plain_bare}

-- the words of a line stay
words_stay : (bs : List Block) (ts : List Lexeme) → is_omp (put_line bs ts) ≡ is_omp ts
unfolding is_omp
words_stay bs [] = refl
words_stay bs (t ∷ []) = refl
words_stay bs (t ∷ u ∷ ts) = refl

-- a directive line stays one
pub line_kept : (bs : List Block) (i : Item Terminal) (t : Terminal) → i.terminal ≡ t →
    is_directive (line_for bs i t).terminal ≡ is_directive t
line_kept bs i (Line ts) e = words_stay bs ts
line_kept bs i (Fixed w) e = ap is_directive e
line_kept bs i (Mark s) e = ap is_directive e
line_kept bs i (Name x) e = ap is_directive e
line_kept bs i (Num n) e = ap is_directive e
line_kept bs i Unknown e = ap is_directive e
line_kept bs i Unworked e = ap is_directive e
line_kept bs i End e = ap is_directive e

-- and the other tokens stay as they are
others_stay : (is : Items) (s : State) → bare (on_devices_in s is) ≡ bare is
others_stay [] s = refl
others_stay (i ∷ is) s = step (others_stay is) (is_directive i.terminal) refl
  where
    step : ((s : State) → bare (on_devices_in s is) ≡ bare is) → (t : Bool) → is_directive i.terminal ≡ t →
        bare (on_devices_in s (i ∷ is)) ≡ bare (i ∷ is)
    step ih true e = rw e (rw (line_kept s.blocks i i.terminal refl ∙ e) (ih s))
    step ih false e = rw e (rw e (ap (λ (js : Items). i ∷ js) (ih (behind s i is))))

-- without directive lines all do
all_stay : (is : Items) (s : State) → ArePlain is → on_devices_in s is ≡ is
all_stay [] s h = refl
all_stay (i ∷ is) s h =
    (let e : is_directive i.terminal ≡ false = h.0 in
    rw e (ap (λ (js : Items). i ∷ js) (all_stay is (behind s i is) h.1)))

pub devices_bare : (is : Items) → on_devices (bare is) ≡ bare (on_devices is)
devices_bare is = all_stay (bare is) begin (plain_bare is) ∙ sym (others_stay is begin)
