-- Where the machine goes through all tokens and their end, a text spells them.
use Rattle.std.proofs.Common.{◌≡◌, List, [], ◌∷◌, ◌++◌, None, sym, ap, subst, ◌∙◌, append_assoc}
use Rattle.std.proofs.lemmas.List.{append-nil}
use Rattle.c_grammar.specs.Texts.{Item, Grammar, Slots, terminals, kinds}
use Rattle.c_grammar.specs.Machine.{Machine, Laws, run}
use Rattle.c_grammar.proofs.Ways.{Slot, cut, terminals_append}
use Rattle.c_grammar.proofs.Faults.{Runs, Told, run_told}
use Rattle.base.proofs.Nils.{nil_parts}

module _ (g : Grammar) (m : Machine g) (l : Laws g m) where
  -- behind the end of a text no token comes
  abbrev pub EndIsLast : Type 0
  EndIsLast = (t : g.Text) (front : Slots g) (x : Slot g m) (more : Slots g) → x.0 ≡ g.end
      → g.slots t ≡ front ++ (x ∷ more) → more ≡ []

  -- a text with these tokens
  abbrev pub HasText : List (Item g.Terminal) → Type 0
  HasText items = (t : g.Text) × g.IsText t × (terminals g items ≡ kinds g (g.slots t))

  whole : EndIsLast → (init : List (Item g.Terminal)) (last : Item g.Terminal) → last.terminal ≡ g.end
      → Runs g m g.begin m.start (init ++ last ∷ []) → HasText (init ++ last ∷ [])
  whole ending init last h r =
      let t = l.completes r.front r.stack r.passed in
      let ends : terminals g (init ++ last ∷ []) ≡ terminals g init ++ (last.terminal ∷ []) =
      terminals_append g m init (last ∷ []) in
      let c = cut g m r.front (terminals g init) last.terminal [] (r.kinds_are ∙ ends) in
      let path : g.slots t.0 ≡ c.front ++ (c.slot ∷ (c.rest ++ t.2)) =
      t.3 ∙ ap (λ (u : Slots g). u ++ t.2) c.split ∙ append_assoc c.front (c.slot ∷ c.rest) t.2 in
      let over : t.2 ≡ [] = (nil_parts c.rest t.2
      (ending t.0 c.front c.slot (c.rest ++ t.2) (c.here ∙ h) path)).1 in
      let same : g.slots t.0 ≡ r.front = t.3 ∙ ap (λ (u : Slots g). r.front ++ u) over ∙ append-nil r.front in
      (t.0, t.1, sym r.kinds_are ∙ ap (λ (u : Slots g). kinds g u) (sym same))

  pub text_of : EndIsLast → (init : List (Item g.Terminal)) (last : Item g.Terminal) → last.terminal ≡ g.end
      → run g m g.begin m.start (init ++ last ∷ []) ≡ None → HasText (init ++ last ∷ [])
  text_of ending init last h e =
      let items : List (Item g.Terminal) = init ++ last ∷ [] in
      let told : Told g m g.begin m.start items (run g m g.begin m.start items) = run_told g m items g.begin m.start in
      whole ending init last h (subst (λ o. Told g m g.begin m.start items o) e told)
