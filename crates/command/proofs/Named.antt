-- The command that the words name, where they have no fault, is one of the eight.
use Rattle.std.proofs.Common.{◌≡◌, ◌∙◌, ◌∷◌, ◌⊎◌, ◌&&◌, ◌||◌, ap, Bool, true, false, not, List, [], Option, Some, None, cond, refl, sym, subst, inl, inr, codes, true≢false, option_map, fold}
use Rattle.std.specs.Prelude.{⊤, find, is_some, IfSome}
use Rattle.std.specs.Str.{bytes_eq}
use Rattle.std.proofs.lemmas.Slice.Eq.{bytes_eq-Decides}
use Rattle.clap.specs.Kinds.{Kinds, or_else}
use Rattle.clap.specs.Faults.{fault_of, is_simple_and_free, other_fault, turn_fault, walk_fault, word_fault, step_fault}
use Rattle.clap.specs.Walk.{Held, Names, Outcome, Rule, Row, Step, Text, Waiting, Walk, done, waits, plain, refused, option, idle, positional, next, trailing, subcommand, value}
use Rattle.clap.specs.Walk.{after_flag, after_step, answers_to, arg_by_index, arg_by_long, bundle, long_met, long_or_other, nothing_held, plain_word, short_or_plain, stop_after, subcommand_met, to_positional, walk_from, walked, walked_from, word_met}
use Rattle.clap.specs.Lexer.{long_of, short_of}
use Rattle.clap.specs.Simple.{App, HasMatchesOf, Shape, app_of, built, entered, is_simple, label_of, names_of, rows_at, subcommand_of, subcommand_rows_of}
use Rattle.clap.specs.Built.{IsParsedFrom}
use Rattle.clap.specs.Matches.{has_subcommand}
use Rattle.clap.specs.declared.builder.command.Command.{Command}
use Rattle.clap.specs.declared.error.kind.ErrorKind.TheVariants.{DisplayHelp, InvalidSubcommand}
use Rattle.clap.specs.declared.parser.matches.ArgMatches.{ArgMatches}
use Rattle.clap.specs.declared.parser.matches.ArgMatches.TheViews.{out-ArgMatches}
use Rattle.clap.proofs.CallerLemmas.{subcommand_required}
use Rattle.command.specs.declared.request.Request.{Request}
use Rattle.command.specs.CommandLine.{AskedBy, Asks, IsNamed, IsProgram, ompc}

-- a step that passed is followed by the next
both : (a b : Kinds) → or_else a b ≡ [] → (a ≡ []) × (b ≡ [])
both [] b e = (refl, e)
both (k ∷ ks) b e = cc

abbrev IsNoHelp : Option (Text × List Text) → Type 0
IsNoHelp stop = IfSome stop (λ p. bytes_eq p.0 (codes "help") ≡ false)

-- a step that is no subcommand
abbrev IsOther : Step → Type 0
IsOther (subcommand name) = ⊥
IsOther _ = ⊤

plain_is_other : (c : List Rule) (w : Waiting) (word : Text) (h : Held) → IsOther (plain_word c w word h).1
plain_is_other c (option id) word h = tt
plain_is_other c idle word h = tt
plain_is_other c positional word h = tt

flag_is_other : (c : List Rule) (w : Waiting) (word : Text) (h : Held) (o : Outcome) → IsOther (after_flag c w word h o).1
flag_is_other c w word h done = tt
flag_is_other c w word h (waits id) = tt
flag_is_other c w word h plain = plain_is_other c w word h
flag_is_other c w word h refused = plain_is_other c w word h

short_is_other : (c : List Rule) (w : Waiting) (word : Text) (flags : Option Text) (h : Held) → IsOther (short_or_plain c w word flags h).1
short_is_other c w word (Some flags) h = flag_is_other c w word (bundle c flags h).0 (bundle c flags h).1
short_is_other c w word None h = plain_is_other c w word h

long_is_other : (c : List Rule) (w : Waiting) (word : Text) (long : Option (Text × Option Text)) (h : Held) → IsOther (long_or_other c w word long h).1
long_is_other c w word (Some p) h = flag_is_other c w word (long_met c (arg_by_long c p.0) p.1 h).0 (long_met c (arg_by_long c p.0) p.1 h).1
long_is_other c w word None h = short_is_other c w word (short_of word) h

-- such a step leaves the walk where no subcommand was met
other_goes_on : (c : List Rule) (word : Text) (w : Walk) (h : Held) (s : Step) → IsOther s → w.stopped ≡ None → IsNoHelp (after_step c word w h s).stopped
other_goes_on c word w h (next waiting) other none = subst IsNoHelp (sym none) tt
other_goes_on c word w h (trailing position) other none = subst IsNoHelp (sym none) tt
other_goes_on c word w h (subcommand name) other none = absurd other
other_goes_on c word w h value other none = go (arg_by_index c w.position)
  where
    go : (a : Option Rule) → IsNoHelp (to_positional c a word w h).stopped
    go None = subst IsNoHelp (sym none) tt
    go (Some a) = tt

-- a word without a fault does not call for help
named_no_help : (s : Shape) (name word : Text) (h : Held) → s.disable_help_subcommand ≡ false → other_fault s (Some name) word h ≡ []
    → bytes_eq name (codes "help") ≡ false
named_no_help s name word h enabled e = go (bytes_eq name (codes "help")) s.disable_help_subcommand enabled e
  where
    go : (b disabled : Bool) → disabled ≡ false → cond (b && not disabled) (DisplayHelp ∷ InvalidSubcommand ∷ []) [] ≡ [] → b ≡ false
    go false disabled enabled e = refl
    go true true enabled e = cc
    go true false enabled e = cc

turn_no_help : (s : Shape) (names : Names) (w : Walk) (word : Text) → s.disable_help_subcommand ≡ false → w.stopped ≡ None
    → word_fault s names w.is_trailing w.waiting word w.held ≡ []
    → IsNoHelp (after_step s.rules word w (word_met s.rules names w.is_trailing w.waiting w.position word w.held).0 (word_met s.rules names w.is_trailing w.waiting w.position word w.held).1).stopped
turn_no_help s names w word enabled none fault = go w.is_trailing (subcommand_met names w.waiting word) refl refl fault
  where
    met : (is_trailing : Bool) → Held × Step
    met is_trailing = word_met s.rules names is_trailing w.waiting w.position word w.held

    dashes : (b : Bool) → IsNoHelp (after_step s.rules word w
        (cond b (w.held, trailing w.position) (long_or_other s.rules w.waiting word (long_of word) w.held)).0
        (cond b (w.held, trailing w.position) (long_or_other s.rules w.waiting word (long_of word) w.held)).1).stopped
    dashes true = subst IsNoHelp (sym none) tt
    dashes false = other_goes_on s.rules word w _ _ (long_is_other s.rules w.waiting word (long_of word) w.held) none

    go : (is_trailing : Bool) (name : Option Text) → w.is_trailing ≡ is_trailing → subcommand_met names w.waiting word ≡ name
        → word_fault s names is_trailing w.waiting word w.held ≡ []
        → IsNoHelp (after_step s.rules word w (met is_trailing).0 (met is_trailing).1).stopped
    go true name t is fault = other_goes_on s.rules word w w.held value tt none
    go false None t is fault = rw is (dashes (bytes_eq word (45 ∷ 45 ∷ [])))
    go false (Some name) t is fault = rw is (named_no_help s name word w.held enabled (rw is at fault))

walk_no_help : (s : Shape) (names : Names) (w : Walk) (words : List Text) → s.disable_help_subcommand ≡ false → walk_fault s names w words ≡ [] → IsNoHelp w.stopped
    → IsNoHelp (fold (walked s.rules names) w words).stopped
unfolding walk_fault walked
walk_no_help s names w [] enabled fault before = before
walk_no_help s names w (word ∷ rest) enabled fault before =
    let faults = both (turn_fault s names w word) (walk_fault s names (walked s.rules names w word) rest) fault in
    walk_no_help s names (walked s.rules names w word) rest enabled faults.1 (go w.stopped refl before faults.0)
  where
    go : (o : Option (Text × List Text)) → w.stopped ≡ o → IsNoHelp o → turn_fault s names w word ≡ [] → IsNoHelp (walked_from s.rules names w.stopped w word).stopped
    go (Some p) is before fault = subst (λ o. IsNoHelp (walked_from s.rules names o w word).stopped) (sym is) before
    go None is before fault =
        let own = both (word_fault s names w.is_trailing w.waiting word w.held) (step_fault s w.position
        (word_met s.rules names w.is_trailing w.waiting w.position word w.held).0
        (word_met s.rules names w.is_trailing w.waiting w.position word w.held).1) (rw is at fault) in
        subst (λ o. IsNoHelp (walked_from s.rules names o w word).stopped) (sym is) (turn_no_help s names w word enabled is own.0)

-- P holds of a member
abbrev OneOf : {X : Type 0} → (X → Type 0) → List X → Type 0
OneOf P [] = ⊥
OneOf P (x ∷ xs) = P x ⊎ OneOf P xs

-- the words name the command, and it gives the name of p
abbrev IsMet : Text × List Text → Text × List Row → Shape → Type 0
IsMet q p s = (answers_to q.0 (label_of s) ≡ true) × (s.name ≡ p.0)

is_met : (q : Text × List Text) (p : Text × List Row) (ss : List Shape)
    → option_map (λ s. rows_at s q.1) (find (λ s. answers_to q.0 (label_of s)) ss) ≡ Some p → OneOf (IsMet q p) ss
is_met q p [] e = cc
is_met q p (s ∷ ss) e = go (answers_to q.0 (label_of s)) refl (is_met q p ss) e
  where
    some_is : {A : Type 0} {a b : A} → Some a ≡ Some b → a ≡ b
    some_is e = cc

    go : (b : Bool) → answers_to q.0 (label_of s) ≡ b
        → (option_map (λ x. rows_at x q.1) (find (λ x. answers_to q.0 (label_of x)) ss) ≡ Some p → OneOf (IsMet q p) ss)
        → option_map (λ x. rows_at x q.1) (cond b (Some s) (find (λ x. answers_to q.0 (label_of x)) ss)) ≡ Some p → OneOf (IsMet q p) (s ∷ ss)
    go true is rest e = inl (is, ap (λ (x : Text × List Row). x.0) (some_is e))
    go false is rest e = inr (rest e)

-- `help` is the same text
is_help : (word : Text) → (bytes_eq (codes "help") word || false) ≡ true → bytes_eq word (codes "help") ≡ true
is_help word e = go (bytes_eq (codes "help") word) refl e
  where
    go : (b : Bool) → bytes_eq (codes "help") word ≡ b → (b || false) ≡ true → bytes_eq word (codes "help") ≡ true
    go true is e = subst (λ (t : Text). bytes_eq t (codes "help") ≡ true) ((bytes_eq-Decides (codes "help") word).0 is) refl
    go false is e = cc

eight : (q : Text × List Text) (p : Text × List Row) → bytes_eq q.0 (codes "help") ≡ false → OneOf (IsMet q p) (built ompc).subs → IsNamed (Some p)
eight q p differs met = elim met [
  | inl h ↦ inl (sym h.1)
  | inr r ↦ elim r [
    | inl h ↦ inr (inl (sym h.1))
    | inr r ↦ elim r [
      | inl h ↦ inr (inr (inl (sym h.1)))
      | inr r ↦ elim r [
        | inl h ↦ inr (inr (inr (inl (sym h.1))))
        | inr r ↦ elim r [
          | inl h ↦ inr (inr (inr (inr (inl (sym h.1)))))
          | inr r ↦ elim r [
            | inl h ↦ inr (inr (inr (inr (inr (inl (sym h.1))))))
            | inr r ↦ elim r [
              | inl h ↦ inr (inr (inr (inr (inr (inr (inl (sym h.1)))))))
              | inr r ↦ elim r [
                | inl h ↦ inr (inr (inr (inr (inr (inr (inr (sym h.1)))))))
                | inr r ↦ elim r [
                  | inl h ↦ absurd (true≢false (sym (is_help q.0 h.0) ∙ differs))
                  | inr none ↦ absurd none
                ]
              ]
            ]
          ]
        ]
      ]
    ]
  ]
]

-- words without a fault that name a command name one of the eight
is_named : (words : List Text) (o : Option (Text × List Row)) → subcommand_of ompc words ≡ o → fault_of ompc words ≡ [] → is_some o ≡ true → IsNamed o
is_named words o is fault some = go (stop_after (built ompc).top.rules (names_of (built ompc)) words) refl o is some
  where
    not_help : IsNoHelp (stop_after (built ompc).top.rules (names_of (built ompc)) words)
    not_help = walk_no_help (built ompc).top (names_of (built ompc)) (walk_from nothing_held) words refl
        (both (walk_fault (built ompc).top (names_of (built ompc)) (walk_from nothing_held) words) _ fault).0 tt

    go : (stop : Option (Text × List Text)) → stop_after (built ompc).top.rules (names_of (built ompc)) words ≡ stop → (o : Option (Text × List Row))
        → subcommand_of ompc words ≡ o → is_some o ≡ true → IsNamed o
    go stop at None is some = cc
    go None at (Some p) is some =
        let none : entered (built ompc) None ≡ Some p = rw at at is in
        cc
    go (Some q) at (Some p) is some =
        let met : entered (built ompc) (Some q) ≡ Some p = rw at at is in
        let differs : IsNoHelp (Some q) = rw at at not_help in
        eight q p differs (is_met q p (built ompc).subs met)

-- what a parse of the command line has met
pub record Meets (words : List Text) (m : ArgMatches) : Type 0 where
  pub named : IsNamed (subcommand_rows_of m)
  pub rows : subcommand_rows_of m ≡ subcommand_of ompc words
  pub no_fault : fault_of ompc words ≡ []

has_mapped : {X Y : Type 0} (f : X → Y) (o : Option X) → is_some o ≡ true → is_some (option_map f o) ≡ true
has_mapped f None has = has
has_mapped f (Some x) has = refl

rows_there : (m : ArgMatches) → has_subcommand m ≡ true → is_some (subcommand_rows_of m) ≡ true
rows_there m has = has_mapped _ (out-ArgMatches m).subcommand has

pub meets : (program : Command) (m : ArgMatches) (words : List Text) → IsProgram program → IsParsedFrom program m → HasMatchesOf (app_of program) words m
    → (is_simple_and_free (app_of program) ≡ true → fault_of (app_of program) words ≡ []) → Meets words m
meets program m words is parsed matches kinds =
    let no_fault : fault_of ompc words ≡ [] = ap (λ (a : App). fault_of a words) (sym is.0) ∙ kinds (ap is_simple_and_free is.0) in
    let rows : subcommand_rows_of m ≡ subcommand_of ompc words = (matches (ap is_simple is.0)).1 ∙ ap (λ (a : App). subcommand_of a words) is.0 in
    let has = subcommand_required program m parsed is.1 (ap (λ (a : App). a.top.subcommand_required) is.0) in
    record { named = is_named words (subcommand_rows_of m) (sym rows) no_fault (rows_there m has); rows = rows; no_fault = no_fault }

-- what is asked of what was met
pub asked : (words : List Text) (m : ArgMatches) (r : Request) → Meets words m → IfSome (subcommand_rows_of m) (λ p. Asks p.0 p.1 r) → AskedBy words r
asked words m r met h = go (subcommand_rows_of m) refl met.named h
  where
    go : (o : Option (Text × List Row)) → subcommand_rows_of m ≡ o → IsNamed o → IfSome o (λ p. Asks p.0 p.1 r) → AskedBy words r
    go None is named h = absurd named
    go (Some p) is named h = (p, sym met.rows ∙ is, h)
