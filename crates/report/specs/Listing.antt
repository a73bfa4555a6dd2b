-- The listing of a program: a line for each item.
use Rattle.std.specs.Prelude.{ℕ, zero, suc, ◌+◌, Bool, ◌==◌, if◌then◌else◌, List, [], ◌∷◌, ◌++◌, Some, None, flat_map, decimal, codes, slice_get, string_bytes, Option, option_map}
use Rattle.base.specs.declared.item.Depend.{Depend}
use Rattle.base.specs.declared.item.Item.{Item}
use Rattle.base.specs.declared.item.ItemKind.{ItemKind}
use Rattle.base.specs.declared.item.ItemKind.TheVariants.{Host, Target, Begin, End, Enter, Exit, Update, Wait}
use Rattle.base.specs.declared.item.MapItem.{MapItem}
use Rattle.base.specs.declared.item.MapKind.{MapKind}
use Rattle.base.specs.declared.item.MapKind.TheVariants.{To, From, ToFrom, Alloc, Release, Delete}
use Rattle.base.specs.declared.item.Section.{Section}
use Rattle.base.specs.declared.tree.DependKind.{DependKind}
use Rattle.base.specs.declared.tree.DependKind.TheVariants as depend
use Rattle.base.specs.declared.tree.Program.{Program}
use Rattle.base.specs.declared.tree.Region.{Region}
use Rattle.base.specs.Items.{Work, plan}
use Rattle.outline.specs.Regions.{Entry}

-- the name of an array
abbrev pub name_of : Program → ℕ → List ℕ
name_of p a = elim (slice_get p.arrays.entries a) [ None ↦ [] | Some e ↦ string_bytes e.0 ]

abbrev pub kind_word : ItemKind → List ℕ
kind_word Host = codes "host"
kind_word Target = codes "target"
kind_word Begin = codes "begin"
kind_word End = codes "end"
kind_word Enter = codes "enter"
kind_word Exit = codes "exit"
kind_word Update = codes "update"
kind_word Wait = codes "wait"

abbrev pub map_word : MapKind → List ℕ
map_word To = codes "to"
map_word From = codes "from"
map_word ToFrom = codes "tofrom"
map_word Alloc = codes "alloc"
map_word Release = codes "release"
map_word Delete = codes "delete"

abbrev pub depend_word : DependKind → List ℕ
depend_word depend.In = codes "dep-in"
depend_word depend.Out = codes "dep-out"
depend_word depend.InOut = codes "dep-inout"

-- ` device N`, or nothing for the device that works where none is named
abbrev pub device_text : ℕ → List ℕ
device_text d = if d == 0 then [] else codes " device " ++ decimal d

-- of how many loops the turns may run in any order: none where they run in order
abbrev pub depth_of : Option Region → ℕ
depth_of None = 0
depth_of (Some r) = r.depth

-- the region of an item, among these
abbrev pub region_in : List Entry → Item → Option Region
region_in entries i = elim i.region [
  | None ↦ None
  | Some k ↦ option_map (λ e. e.region) (slice_get entries k)
]

-- ` unordered` where the turns of one loop may run in any order, ` unordered N` where those of N loops may
abbrev pub unordered_text : ℕ → List ℕ
unordered_text zero = []
unordered_text (suc zero) = codes " unordered"
unordered_text (suc (suc d)) = codes " unordered " ++ decimal (suc (suc d))

-- `NAME[first:length]`
abbrev pub section_text : Program → Section → List ℕ
section_text p s =
    name_of p s.array.0 ++ (codes "[" ++ (decimal s.first ++ (codes ":" ++ (decimal s.length ++ codes "]"))))

abbrev pub map_text : Program → MapItem → List ℕ
map_text p m =
    codes " " ++ ((if m.always then codes "always " else []) ++ ((if m.present then codes "present " else [])
    ++ (map_word m.kind ++ (codes " " ++ section_text p m.section))))

abbrev pub depend_text : Program → Depend → List ℕ
depend_text p d = codes " " ++ (depend_word d.kind ++ (codes " " ++ section_text p d.section))

-- the line of an item: its number, its kind, whether it is deferred, its device, of how many loops the turns are
-- unordered, its map items and its depend items
abbrev pub line_of : Program → ℕ → ItemKind → Bool → ℕ → ℕ → List MapItem → List Depend → List ℕ
line_of p n kind deferred device depth maps depends =
    decimal n ++ (codes " " ++ (kind_word kind ++ ((if deferred then codes " nowait" else []) ++ (device_text device
    ++ (unordered_text depth ++ (flat_map (map_text p) maps ++ (flat_map (depend_text p) depends ++ codes "\n")))))))

abbrev pub work_line : Program → ℕ → Work → List ℕ
work_line p n w = line_of p n w.kind w.deferred w.device (depth_of w.region) w.maps w.depends

abbrev pub lines_from : Program → ℕ → List Work → List ℕ
lines_from p n [] = []
lines_from p n (w ∷ ws) = work_line p n w ++ lines_from p (n + 1) ws

-- the whole listing
abbrev pub list_bytes : Program → List ℕ
list_bytes p = lines_from p 0 (plan p).items
