-- Which devices loops count is found without a look at the lines of the tokens.
use Rattle.std.proofs.Common.{◌≡◌, ◌∙◌, Bool, true, false, cond, List, [], ◌∷◌, drop, None, refl, ap}
use Rattle.c_tokens.specs.declared.kind.Sign.TheVariants as sign
use Rattle.c_grammar.specs.Lexeme.{For}
use Rattle.c_grammar.specs.Terminal.{Terminal, Fixed, Mark, Name, Num, Line, Unknown, Unworked, End, same}
use Rattle.c_grammar.specs.Texts.{Item}
use Rattle.c_grammar.specs.Blocks.{Items, is_directive}
use Rattle.c_grammar.specs.Constants.{is_mark}
use Rattle.c_grammar.specs.Devices.{Block, State, begin, behind, line_for, loop_in, on_devices, on_devices_in}
use Rattle.same_text.specs.Laws.{unlined}
use Rattle.same_text.proofs.Unlined.{AreUnlined, all_unlined, one}

loop_same : (is : Items) → loop_in (all_unlined is) ≡ loop_in is
loop_same [] = refl
loop_same (a ∷ []) = refl
loop_same (a ∷ b ∷ []) = refl
loop_same (a ∷ b ∷ c ∷ []) = refl
loop_same (a ∷ b ∷ c ∷ d ∷ []) = refl
loop_same (a ∷ b ∷ c ∷ d ∷ e ∷ []) = refl
loop_same (a ∷ b ∷ c ∷ d ∷ e ∷ f ∷ []) = refl
loop_same (a ∷ b ∷ c ∷ d ∷ e ∷ f ∷ g ∷ []) = refl
loop_same (a ∷ b ∷ c ∷ d ∷ e ∷ f ∷ g ∷ h ∷ []) = refl
loop_same (a ∷ b ∷ c ∷ d ∷ e ∷ f ∷ g ∷ h ∷ i ∷ []) = refl
loop_same (a ∷ b ∷ c ∷ d ∷ e ∷ f ∷ g ∷ h ∷ i ∷ j ∷ []) = refl
loop_same (a ∷ b ∷ c ∷ d ∷ e ∷ f ∷ g ∷ h ∷ i ∷ j ∷ k ∷ []) = refl
loop_same (a ∷ b ∷ c ∷ d ∷ e ∷ f ∷ g ∷ h ∷ i ∷ j ∷ k ∷ l ∷ []) = refl
loop_same (a ∷ b ∷ c ∷ d ∷ e ∷ f ∷ g ∷ h ∷ i ∷ j ∷ k ∷ l ∷ m ∷ is) = refl

behind_same : (s : State) (i : Item Terminal) (is : Items) → behind s (unlined i) (all_unlined is) ≡ behind s i is
behind_same s i is =
    ap (λ (b : Block).
    if_open (record { blocks = s.next ∷ s.blocks; next = None })
    (if_close (record { blocks = drop 1 s.blocks; next = None }) (if_for (record { blocks = s.blocks; next = b }) s)))
    (loop_same is)
  where
    if_open : State → State → State
    if_open t u = cond (is_mark sign.OpenBrace i) t u

    if_close : State → State → State
    if_close t u = cond (is_mark sign.CloseBrace i) t u

    if_for : State → State → State
    if_for t u = cond (same (Fixed For) i.terminal) t u

line_unlined : (bs : List Block) (i : Item Terminal) (t : Terminal) → line_for bs (unlined i) t ≡ unlined (line_for bs i t)
line_unlined bs i (Line ts) = refl
line_unlined bs i (Fixed w) = refl
line_unlined bs i (Mark s) = refl
line_unlined bs i (Name x) = refl
line_unlined bs i (Num n) = refl
line_unlined bs i Unknown = refl
line_unlined bs i Unworked = refl
line_unlined bs i End = refl

in_unlined : (is : Items) (s : State) → AreUnlined (on_devices_in s (all_unlined is)) (on_devices_in s is)
in_unlined [] s = refl
in_unlined (i ∷ is) s = step (in_unlined is) (is_directive i.terminal)
  where
    step : ((s : State) → AreUnlined (on_devices_in s (all_unlined is)) (on_devices_in s is)) → (t : Bool) → AreUnlined
        (cond t (line_for s.blocks (unlined i) i.terminal ∷ on_devices_in s (all_unlined is))
        (unlined i ∷ on_devices_in (behind s (unlined i) (all_unlined is)) (all_unlined is)))
        (cond t (line_for s.blocks i i.terminal ∷ on_devices_in s is) (i ∷ on_devices_in (behind s i is) is))
    step ih true =
        ap (λ (j : Item Terminal). j ∷ on_devices_in s (all_unlined is)) (line_unlined s.blocks i i.terminal)
        ∙ one (line_for s.blocks i i.terminal) (on_devices_in s is) (on_devices_in s (all_unlined is)) (ih s)
    step ih false =
        ap (λ (t : State). unlined i ∷ on_devices_in t (all_unlined is)) (behind_same s i is)
        ∙ one i (on_devices_in (behind s i is) is) (on_devices_in (behind s i is) (all_unlined is)) (ih (behind s i is))

pub devices_unlined : (is : Items) → AreUnlined (on_devices (all_unlined is)) (on_devices is)
devices_unlined is = in_unlined is begin
