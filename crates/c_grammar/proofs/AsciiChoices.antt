-- Where conditional operators are written out, no name changes.
use Rattle.std.proofs.Common.{refl, ℕ, zero, suc, ◌+◌, ◌-◌, Bool, true, false, cond, [], ◌∷◌, ◌++◌, length, take, drop, Option, Some, None}
use Rattle.std.specs.Prelude.{◌==◌, ◌||◌, codes}
use Rattle.c_tokens.specs.declared.kind.Sign.TheVariants as sign
use Rattle.c_grammar.specs.Lexeme.{Uint64}
use Rattle.c_grammar.specs.Terminal.{Terminal, Fixed, Mark, Unknown, same}
use Rattle.c_grammar.specs.Texts.{Item}
use Rattle.c_grammar.specs.Blocks.{Items, at, bare, is_directive}
use Rattle.c_grammar.specs.AsciiNames.{IsAsciiTerminal}
use Rattle.c_grammar.specs.Changes.{reversed}
use Rattle.c_grammar.specs.Choices.{Onward, Parts, State, all_alone, alone, assigned, begin, choice_len, chosen, chosen_in, chosen_on, condition_len, cut, cut_by, declared, either_at, first_len, held_name, is_question, left_len, lifted, lifted_by, max_choices, parts, parts_at, put_on, question_at, second_len, with_first, with_second, written}
use Rattle.c_grammar.proofs.AsciiTokens.{AreItemsText, bare_text, both_text, chosen_text as either_text}
use Rattle.c_grammar.proofs.AsciiCalls.{take_text, drop_text}
use Rattle.c_grammar.proofs.AsciiPassed.{all_low, low_text}

-- ---- a statement

alone_text : (i : Item Terminal) → IsAsciiTerminal i.terminal → IsAsciiTerminal (alone i).terminal
alone_text i h = go (is_question i)
  where
    go : (b : Bool) → IsAsciiTerminal (cond b (at i Unknown) i).terminal
    go true = tt
    go false = h

all_text : (is : Items) → AreItemsText is → AreItemsText (all_alone is)
all_text [] h = tt
all_text (i ∷ is) h = (alone_text i h.0, all_text is h.1)

abbrev ArePartsText : Option Parts → Type 0
ArePartsText None = Unit {0}
ArePartsText (Some p) = AreItemsText p.condition × AreItemsText (with_first p) × AreItemsText (with_second p)

cut_by_text : (m : Item Terminal) (before is : Items) (n k l : ℕ) → AreItemsText before → AreItemsText is →
    ArePartsText (cut_by m before is n k l)
cut_by_text m before is n k l h j = go ((n == 0) || (k == 0) || (l == 0))
  where
    left : ℕ
    left = length before - n

    rest : Items
    rest = drop (k + 1) is

    others : AreItemsText rest
    others = drop_text (k + 1) is j

    with : (ks : Items) → AreItemsText ks → AreItemsText (take left before ++ (ks ++ drop l rest))
    with ks h' = both_text (take left before) (ks ++ drop l rest) (take_text left before h)
        (both_text ks (drop l rest) h' (drop_text l rest others))

    go : (b : Bool) → ArePartsText (cond b None (Some (record {
      mark = m;
      before = take left before;
      condition = drop left before;
      first = take k is;
      second = take l rest;
      behind = drop l rest;
    })))
    go true = tt
    go false = (drop_text left before h, with (take k is) (take_text k is j), with (take l rest) (take_text l rest others))

cut_text : (before is : Items) → AreItemsText before → AreItemsText is → ArePartsText (cut before is)
cut_text before [] h j = tt
cut_text before (m ∷ is) h j =
    cut_by_text m before is (condition_len 0 0 (reversed before [])) (first_len 0 0 0 is)
    (second_len 0 0 (drop (first_len 0 0 0 is + 1) is)) h j.1

parts_text : (is : Items) → AreItemsText is → ArePartsText (parts is)
parts_text is h = go (question_at 0 is)
  where
    go : (o : Option ℕ) → ArePartsText (parts_at is o)
    go None = tt
    go (Some q) = cut_text (take q is) (drop q is) (take_text q is h) (drop_text q is h)

either_at_text : (i : Item Terminal) (c x y : Items) → AreItemsText c → AreItemsText x → AreItemsText y →
    AreItemsText (either_at i c x y)
either_at_text i c x y h j k = (
  tt,
  (
    tt,
    both_text (all_alone c) _ (all_text c h)
        (tt, (tt, both_text x _ j (tt, (tt, (tt, both_text y _ k (tt, tt)))))),
  ),
)

lifted_text : (n : ℕ) (is : Items) → AreItemsText is → AreItemsText (lifted n is)
lifted_text zero is h = all_text is h
lifted_text (suc n) is h = go (parts is) (parts_text is h) (lifted_text n)
  where
    go : (o : Option Parts) → ArePartsText o → ((js : Items) → AreItemsText js → AreItemsText (lifted n js)) →
        AreItemsText (lifted_by is o (lifted n))
    go None q r = all_text is h
    go (Some p) q r =
        either_at_text p.mark p.condition _ _ q.0 (r (with_first p) q.1) (r (with_second p) q.2)

declared_text : (i : Item Terminal) (is : Items) → IsAsciiTerminal i.terminal → AreItemsText is → AreItemsText (declared i is)
declared_text i [] h j = (h, tt)
declared_text i (x ∷ is) h j = (h, (j.0, (tt, (tt, (tt, lifted_text max_choices (x ∷ is) j)))))

held_is_text : IsAsciiTerminal held_name
held_is_text = low_text (codes "?") (all_low (codes "?") refl)

assigned_text : (i : Item Terminal) (is : Items) (o : Option ℕ) → IsAsciiTerminal i.terminal → AreItemsText is →
    AreItemsText (assigned i is o)
assigned_text i is None h j = lifted_text max_choices (i ∷ is) (h, j)
assigned_text i is (Some n) h j = (
  tt,
  both_text (declared (at i (Fixed Uint64)) (at i held_name ∷ at i (Mark sign.Equal) ∷ drop n is)) _
      (declared_text (at i (Fixed Uint64)) (at i held_name ∷ at i (Mark sign.Equal) ∷ drop n is) tt
      (held_is_text, (tt, drop_text n is j)))
      (h, both_text (take n is) _ (take_text n is j) (held_is_text, (tt, (tt, tt)))),
)

written_text : (i : Item Terminal) (is : Items) → IsAsciiTerminal i.terminal → AreItemsText is → AreItemsText (written i is)
written_text i is h j =
    either_text (same (Fixed Uint64) i.terminal) (declared i is) (assigned i is (left_len 0 0 is)) (declared_text i is h j)
    (assigned_text i is (left_len 0 0 is) h j)

-- ---- the tokens

abbrev GoText : Onward → Type 0
GoText go = (s : State) (k : ℕ) → AreItemsText (go s k)

put_text : (s : State) (i : Item Terminal) (is : Items) (o : Option ℕ) (go : Onward) → IsAsciiTerminal i.terminal →
    AreItemsText is → GoText go → AreItemsText (put_on s i is o go)
put_text s i is None go h j r = (alone_text i h, r _ _)
put_text s i is (Some n) go h j r =
    both_text (written i (take n is)) _ (written_text i (take n is) h (take_text n is j)) (r _ _)

chosen_on_text : (k : ℕ) (s : State) (i : Item Terminal) (is : Items) (go : Onward) → IsAsciiTerminal i.terminal →
    AreItemsText is → GoText go → AreItemsText (chosen_on s k i is go)
chosen_on_text zero s i is go h j r = put_text s i is (choice_len s i is) go h j r
chosen_on_text (suc k) s i is go h j r = r _ _

chosen_in_text : (is : Items) (s : State) (k : ℕ) → AreItemsText is → AreItemsText (chosen_in s k is)
chosen_in_text [] s k h = tt
chosen_in_text (i ∷ is) s k h =
    either_text (is_directive i.terminal) _ _ (h.0, chosen_in_text is s k h.1)
    (chosen_on_text k s i (bare is) (λ s k. chosen_in s k is) h.0 (bare_text is h.1) (λ s k. chosen_in_text is s k h.1))

pub chosen_text : (is : Items) → AreItemsText is → AreItemsText (chosen is)
chosen_text is h = chosen_in_text is begin 0 h
