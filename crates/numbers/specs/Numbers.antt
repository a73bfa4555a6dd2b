-- The numbers that a text spells.
use Rattle.std.specs.Prelude.{ℕ, zero, suc, ◌+◌, ◌-◌, ◌*◌, ◌^◌, Bool, true, false, not, ◌||◌, ◌&&◌, if◌then◌else◌, ◌==◌, nat_lt, nat_le, List, [], ◌∷◌, ◌++◌, length, take, drop, filter, Option, Some, None, option_map, option_and_then}
use Rattle.std.specs.List.{list_all, prefix_len, slice_split}

-- the digits 0 to 9
abbrev pub is_digit : ℕ → Bool
is_digit b = nat_le 48 b && nat_le b 57

-- space, tab, carriage return, line feed
abbrev pub is_blank : ℕ → Bool
is_blank b = (b == 32) || (b == 9) || (b == 13) || (b == 10)

-- what stands between choices
abbrev pub is_comma : ℕ → Bool
is_comma b = b == 44

-- a text that is not empty
abbrev pub is_word : List ℕ → Bool
is_word [] = false
is_word (b ∷ bs) = true

-- what digits spell in base ten
abbrev pub in_base_ten : List ℕ → ℕ
in_base_ten [] = 0
in_base_ten (d ∷ ds) = (d - 48) * 10 ^ length ds + in_base_ten ds

-- the number that a text spells: it has a digit, and nothing but digits
abbrev pub value_of : List ℕ → Option ℕ
value_of text = if is_word text && list_all is_digit text then Some (in_base_ten text) else None

-- a number, where it is below the bound
abbrev pub below : ℕ → ℕ → Option ℕ
below bound n = if nat_lt n bound then Some n else None

-- the number below the bound that a text spells
unfoldable pub number_below : ℕ → List ℕ → Option ℕ
number_below bound text = option_and_then (below bound) (value_of text)

-- the numbers below the bound that texts spell, each of them
abbrev pub numbers_below : ℕ → List (List ℕ) → Option (List ℕ)
numbers_below bound [] = Some []
numbers_below bound (text ∷ texts) =
    option_and_then (λ n. option_map (λ ns. n ∷ ns) (numbers_below bound texts)) (number_below bound text)

-- the texts between blanks
abbrev pub words : List ℕ → List (List ℕ)
words bytes = filter is_word (slice_split is_blank bytes)

-- the numbers of an input, at most 2 ^ 20 of them
unfoldable pub input_of : List ℕ → Option (List ℕ)
input_of bytes = if nat_le (length (words bytes)) 1048576 then numbers_below (2 ^ 64) (words bytes) else None

-- a list of choices: numbers between commas, or no text
unfoldable pub choices_of : List ℕ → Option (List ℕ)
choices_of [] = Some []
choices_of (b ∷ bs) = numbers_below (2 ^ 32) (slice_split is_comma (b ∷ bs))

-- ---- choices in runs

-- what does not stand between a number and how often it is meant
abbrev pub is_no_star : ℕ → Bool
is_no_star b = not (b == 42)

-- so often the number
abbrev pub repeated : ℕ → ℕ → List ℕ
repeated zero n = []
repeated (suc k) n = n ∷ repeated k n

-- how often, behind the number
abbrev pub times_in : List ℕ → Option ℕ
times_in [] = Some 1
times_in (s ∷ text) = number_below (2 ^ 32) text

abbrev pub run_of : Option ℕ → Option ℕ → Option (List ℕ)
run_of None k = None
run_of (Some n) None = None
run_of (Some n) (Some k) = Some (repeated k n)

-- a number, or a number and how often it is meant
abbrev pub run_in : List ℕ → Option (List ℕ)
run_in text =
    let k = prefix_len is_no_star text in
    run_of (number_below (2 ^ 32) (take k text)) (times_in (drop k text))

-- the most choices that runs stand for
abbrev pub most_choices : ℕ
most_choices = 16777216

-- behind the choices of runs before, where there are no more in all than there may be
abbrev pub then_run : List ℕ → Option (List ℕ) → Option (List ℕ)
then_run ns None = None
then_run ns (Some ms) = if nat_le (length ns + length ms) most_choices then Some (ns ++ ms) else None

abbrev pub runs_on : Option (List ℕ) → (List ℕ → Option (List ℕ)) → Option (List ℕ)
runs_on None go = None
runs_on (Some ns) go = go ns

-- the choices of runs behind others
abbrev pub runs_behind : List ℕ → List (List ℕ) → Option (List ℕ)
runs_behind ns [] = Some ns
runs_behind ns (t ∷ ts) = runs_on (then_run ns (run_in t)) (λ ns. runs_behind ns ts)

-- runs of equal choices between commas, or no text
unfoldable pub runs_of : List ℕ → Option (List ℕ)
runs_of [] = Some []
runs_of (b ∷ bs) = runs_behind [] (slice_split is_comma (b ∷ bs))
