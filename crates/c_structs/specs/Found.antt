-- Structs and names that are structs, as they are held.
use Rattle.std.specs.Prelude.{map, if◌then◌else◌}
use Rattle.c_grammar.specs.Structs as structs
use Rattle.c_structs.specs.declared.declarations.Declared.{Declared}
use Rattle.c_structs.specs.declared.declarations.Form.{Form}
use Rattle.c_structs.specs.declared.declarations.Form.TheVariants as given
use Rattle.c_structs.specs.declared.declarations.Holder.{Holder}
use Rattle.c_structs.specs.declared.declarations.Use.{Use}
use Rattle.c_structs.specs.declared.found.Found.{Found}
use Rattle.c_structs.specs.Definitions.{seen_struct}
use Rattle.c_terminals.specs.Ahead.{ahead}

abbrev pub seen_holder : Holder → structs.Holder
seen_holder h = record { name = h.name.now; many = h.many; struct = seen_struct h.of }

abbrev pub seen_form : Form → structs.Form
seen_form given.One = structs.One
seen_form given.Array = structs.Array
seen_form given.Pointer = structs.Pointer

abbrev pub seen_declared : Declared → structs.Declared
seen_declared d = record { form = seen_form d.form; holder = seen_holder d.holder; len = d.len }

abbrev pub seen_use : Use → structs.Use
seen_use u = record { struct = seen_struct u.of; len = if u.long then 1 else 0; rest = ahead u.rest }

abbrev pub seen_found : Found → structs.Found
seen_found f = record {
  structs = map seen_struct f.structs.items;
  holders = map seen_holder f.holders.items;
  spoiled = f.spoiled;
}
