-- Where no cause of 2 to 6 holds, each value has its form.
use Rattle.std.proofs.Common.{◌≡◌, ◌+◌, ◌<◌, ◌≤◌, ◌==◌, ◌&&◌, ℕ, pos, negsuc, List, [], length, Bool, true, false, nat_le, nat_lt, Option, None, Some, option_map, refl, subst, sym, arith, lit<, cond}
use Rattle.std.specs.Prelude.{All, IfSome, codes, unwrap_or, option_and_then}
use Rattle.std.proofs.lemmas.Bool.{leb-true, lt-ltb, and_parts}
use Rattle.std.proofs.lemmas.Bool.Decides.{nat_tests}
use Rattle.std.proofs.lemmas.List.Elements.{All-cons, All-nil}
use Rattle.toml.specs.Data.{Data, string, integer, float, boolean, datetime, array, table, Items, no_items, item, Members, no_members, as_array, as_integer, as_table, get_member}
use Rattle.app_toml.specs.declared.forms.ValueForm.TheVariants.{Number, Name, Filled, Names}
use Rattle.app_toml.specs.Accepted.{IsAccepted, IsDevice, IsInterrupt, IsName, IsRegion, IsTask, IsWithin}
use Rattle.app_toml.specs.Apps.{AppData}
use Rattle.app_toml.specs.Crossed.{cross_fault}
use Rattle.app_toml.specs.Document.{form_fault, listed_fault, listed_found, single_fault, single_found, tables_fault, top_fault}
use Rattle.text_lines.specs.Names.{is_name}
use Rattle.app_toml.specs.Forms.{name_fault, names_fault}
use Rattle.app_toml.specs.Keys.{KeyRow, board_keys, device_keys, found_fault, interrupt_keys, keys_fault, needed, optional, region_keys, supervisor_keys, table_fault, task_keys, unknown_fault}
use Rattle.app_toml.specs.Places.{Site, Text, at_entry, at_key, head_site, index_site, refuse}
use Rattle.app_toml.specs.Values.{app_in, device_in, each_in, interrupt_in, members_in, number_in, region_in, small, table_of, task_in, text_of, texts_of}
use Rattle.app_toml.proofs.Passed.{both_none, key_none}

-- ---- one value

none_if : (b : Bool) (site : Site) → cond b None (refuse 5 site) ≡ None → b ≡ true
none_if true site e = refl
none_if false site e = cc

form_if : (b : Bool) (site : Site) → cond b None (refuse 6 site) ≡ None → b ≡ true
form_if true site e = refl
form_if false site e = cc

filled_if : (b : Bool) (site : Site) → cond b (refuse 6 site) None ≡ None → b ≡ false
filled_if true site e = cc
filled_if false site e = refl

pub number_kept : (low high : ℕ) (site : Site) (d : Option Data) → high < 4294967296
    → found_fault (needed [] (Number (pos low) (pos high))) site d ≡ None
    → IsWithin low high (small (option_and_then as_integer d))
number_kept low high site None lt e = cc
number_kept low high site (Some (integer (pos n))) lt e =
    let tests = and_parts (nat_le low n) (nat_le n high) (none_if (nat_le low n && nat_le n high) site e) in
    let low_n = leb-true low n tests.0 in
    let n_high = leb-true n high tests.1 in
    let fits : n < 4294967296 = omega arith in
    rw (lt-ltb n 4294967296 fits) (low_n, n_high)
number_kept low high site (Some (integer (negsuc n))) lt e = cc
number_kept low high site (Some (string s)) lt e = cc
number_kept low high site (Some (float x)) lt e = cc
number_kept low high site (Some (boolean b)) lt e = cc
number_kept low high site (Some (datetime t)) lt e = cc
number_kept low high site (Some (array ds)) lt e = cc
number_kept low high site (Some (table ms)) lt e = cc

pub name_kept : (site : Site) (d : Option Data) → found_fault (needed [] Name) site d ≡ None
    → IsName (unwrap_or (option_map text_of d) [])
name_kept site None e = cc
name_kept site (Some (string s)) e = form_if (is_name s) site e
name_kept site (Some (integer z)) e = cc
name_kept site (Some (float x)) e = cc
name_kept site (Some (boolean b)) e = cc
name_kept site (Some (datetime t)) e = cc
name_kept site (Some (array ds)) e = cc
name_kept site (Some (table ms)) e = cc

pub some_name_kept : (site : Site) (d : Option Data) → found_fault (optional [] Name) site d ≡ None
    → IfSome (option_map text_of d) IsName
some_name_kept site None e = tt
some_name_kept site (Some d) e = name_kept site (Some d) e

not_zero : (n : ℕ) → (n == 0) ≡ false → 0 < n
not_zero n e = grind (arith, nat_tests)

pub filled_kept : (site : Site) (d : Option Data) → found_fault (needed [] Filled) site d ≡ None
    → 0 < length (unwrap_or (option_map text_of d) [])
filled_kept site None e = cc
filled_kept site (Some (string s)) e = not_zero (length s) (filled_if (length s == 0) site e)
filled_kept site (Some (integer z)) e = cc
filled_kept site (Some (float x)) e = cc
filled_kept site (Some (boolean b)) e = cc
filled_kept site (Some (datetime t)) e = cc
filled_kept site (Some (array ds)) e = cc
filled_kept site (Some (table ms)) e = cc

entry_kept : (site : Site) (d : Data) → name_fault site d ≡ None → IsName (text_of d)
entry_kept site d e = name_kept site (Some d) e

entries_kept : (site : Site) (k : ℕ) (ds : Items) → names_fault site k ds ≡ None → All IsName (texts_of ds)
entries_kept site k no_items e = All-nil IsName
entries_kept site k (item d ds) e =
    let parts = both_none (name_fault (at_entry k site) d) (names_fault site (k + 1) ds) e in
    All-cons IsName (text_of d) (texts_of ds) (entry_kept (at_entry k site) d parts.0)
    (entries_kept site (k + 1) ds parts.1)

pub names_kept : (site : Site) (d : Option Data) → found_fault (optional [] Names) site d ≡ None
    → All IsName (texts_of (unwrap_or (option_and_then as_array d) no_items))
names_kept site None e = All-nil IsName
names_kept site (Some (array ds)) e = entries_kept site 0 ds e
names_kept site (Some (string s)) e = cc
names_kept site (Some (integer z)) e = cc
names_kept site (Some (float x)) e = cc
names_kept site (Some (boolean b)) e = cc
names_kept site (Some (datetime t)) e = cc
names_kept site (Some (table ms)) e = cc

as_byte : (high n : ℕ) → high < 256 → n ≤ high → cond (nat_lt n 256) n 0 ≤ high
as_byte high n lt le = let fits : n < 256 = omega arith in rw (lt-ltb n 256 fits) le

-- ---- one table

no_key : KeyRow
no_key = needed [] Name

inner_none : (keys : List KeyRow) (site : Site) (d : Data) → table_fault keys site d ≡ None
    → keys_fault keys site (table_of d) ≡ None
inner_none keys site (table ms) e = (both_none (unknown_fault keys site ms) (keys_fault keys site ms) e).1
inner_none keys site (string s) e = cc
inner_none keys site (integer z) e = cc
inner_none keys site (float x) e = cc
inner_none keys site (boolean b) e = cc
inner_none keys site (datetime t) e = cc
inner_none keys site (array ds) e = cc

task_kept : (site : Site) (d : Data) → table_fault task_keys site d ≡ None → IsTask (task_in (table_of d))
task_kept site d e =
    let ms = table_of d in
    let inner = inner_none task_keys site d e in
    let low = number_kept 0 255 (at_key (codes "priority") site) (get_member (codes "priority") ms) (lit< tt)
    (key_none task_keys site ms 2 no_key (lit< tt) inner) in
    record {
      name = name_kept (at_key (codes "name") site) (get_member (codes "name") ms) (key_none task_keys site ms 0 no_key (lit< tt) inner);
      source = filled_kept (at_key (codes "source") site) (get_member (codes "source") ms) (key_none task_keys site ms 1 no_key (lit< tt) inner);
      priority = as_byte 255 (number_in (codes "priority") ms) (lit< tt) low.1;
      flash = number_kept 1 1048576 (at_key (codes "flash") site) (get_member (codes "flash") ms) (lit< tt) (key_none task_keys site ms 4 no_key (lit< tt) inner);
      ram = number_kept 1 262144 (at_key (codes "ram") site) (get_member (codes "ram") ms) (lit< tt) (key_none task_keys site ms 5 no_key (lit< tt) inner);
      stack = (number_kept 0 262144 (at_key (codes "stack") site) (get_member (codes "stack") ms) (lit< tt) (key_none task_keys site ms 6 no_key (lit< tt) inner)).1;
      notifications = names_kept (at_key (codes "notifications") site) (get_member (codes "notifications") ms) (key_none task_keys site ms 7 no_key (lit< tt) inner);
      uses = names_kept (at_key (codes "uses") site) (get_member (codes "uses") ms) (key_none task_keys site ms 8 no_key (lit< tt) inner);
      reads = names_kept (at_key (codes "reads") site) (get_member (codes "reads") ms) (key_none task_keys site ms 9 no_key (lit< tt) inner);
    }

region_kept : (site : Site) (d : Data) → table_fault region_keys site d ≡ None → IsRegion (region_in (table_of d))
region_kept site d e =
    let ms = table_of d in
    let inner = inner_none region_keys site d e in
    record {
      name = name_kept (at_key (codes "name") site) (get_member (codes "name") ms) (key_none region_keys site ms 0 no_key (lit< tt) inner);
      size = number_kept 1 262144 (at_key (codes "size") site) (get_member (codes "size") ms) (lit< tt) (key_none region_keys site ms 1 no_key (lit< tt) inner);
    }

device_kept : (site : Site) (d : Data) → table_fault device_keys site d ≡ None → IsDevice (device_in (table_of d))
device_kept site d e =
    let ms = table_of d in
    let inner = inner_none device_keys site d e in
    record {
      name = name_kept (at_key (codes "name") site) (get_member (codes "name") ms) (key_none device_keys site ms 0 no_key (lit< tt) inner);
      base = (number_kept 0 4294967295 (at_key (codes "base") site) (get_member (codes "base") ms) (lit< tt) (key_none device_keys site ms 1 no_key (lit< tt) inner)).1;
      size = number_kept 256 536870912 (at_key (codes "size") site) (get_member (codes "size") ms) (lit< tt) (key_none device_keys site ms 2 no_key (lit< tt) inner);
    }

interrupt_kept : (site : Site) (d : Data) → table_fault interrupt_keys site d ≡ None → IsInterrupt (interrupt_in (table_of d))
interrupt_kept site d e =
    let ms = table_of d in
    let inner = inner_none interrupt_keys site d e in
    let low = number_kept 0 63 (at_key (codes "line") site) (get_member (codes "line") ms) (lit< tt)
    (key_none interrupt_keys site ms 0 no_key (lit< tt) inner) in
    record {
      line = as_byte 63 (number_in (codes "line") ms) (lit< tt) low.1;
      task = name_kept (at_key (codes "task") site) (get_member (codes "task") ms) (key_none interrupt_keys site ms 1 no_key (lit< tt) inner);
      notification = name_kept (at_key (codes "notification") site) (get_member (codes "notification") ms) (key_none interrupt_keys site ms 2 no_key (lit< tt) inner);
      device = some_name_kept (at_key (codes "device") site) (get_member (codes "device") ms) (key_none interrupt_keys site ms 3 no_key (lit< tt) inner);
    }

-- ---- lists of tables

-- each table of the list is what its keys make it
abbrev Keeps : {T : Type 0} → (T → Type 0) → (Members → T) → List KeyRow → Type 0
Keeps P read keys = (site : Site) (d : Data) → table_fault keys site d ≡ None → P (read (table_of d))

each_kept : {T : Type 0} (P : T → Type 0) (read : Members → T) (name : Text) (keys : List KeyRow) → Keeps P read keys
    → (k : ℕ) (ds : Items) → tables_fault name keys k ds ≡ None → All P (each_in read ds)
each_kept P read name keys keeps k no_items e = All-nil P
each_kept P read name keys keeps k (item d ds) e =
    let parts = both_none (table_fault keys (index_site name k) d) (tables_fault name keys (k + 1) ds) e in
    All-cons P (read (table_of d)) (each_in read ds) (keeps (index_site name k) d parts.0)
    (each_kept P read name keys keeps (k + 1) ds parts.1)

listed_kept : {T : Type 0} (P : T → Type 0) (read : Members → T) (name : Text) (is_needed : Bool) (keys : List KeyRow)
    → Keeps P read keys → (d : Option Data) → listed_found name is_needed keys d ≡ None
    → All P (each_in read (unwrap_or (option_and_then as_array d) no_items))
listed_kept P read name is_needed keys keeps None e = All-nil P
listed_kept P read name is_needed keys keeps (Some (array ds)) e = each_kept P read name keys keeps 0 ds e
listed_kept P read name is_needed keys keeps (Some (string s)) e = cc
listed_kept P read name is_needed keys keeps (Some (integer z)) e = cc
listed_kept P read name is_needed keys keeps (Some (float x)) e = cc
listed_kept P read name is_needed keys keeps (Some (boolean b)) e = cc
listed_kept P read name is_needed keys keeps (Some (datetime t)) e = cc
listed_kept P read name is_needed keys keeps (Some (table ms)) e = cc

-- ---- the whole document

single_none : (name : Text) (keys : List KeyRow) (d : Option Data) → single_found name keys d ≡ None
    → keys_fault keys (head_site name) (unwrap_or (option_and_then as_table d) no_members) ≡ None
single_none name keys None e = cc
single_none name keys (Some d) e = inner_none keys (head_site name) d e

pub accepted : (ms : Members) → form_fault ms ≡ None → cross_fault (app_in ms) ≡ None → IsAccepted (app_in ms)
accepted ms forms crossed =
    let after_top = (both_none (top_fault ms) _ forms).1 in
    let board_parts = both_none (single_fault (codes "board") board_keys ms) _ after_top in
    let supervisor_parts = both_none (single_fault (codes "supervisor") supervisor_keys ms) _ board_parts.1 in
    let task_parts = both_none (listed_fault (codes "task") true task_keys ms) _ supervisor_parts.1 in
    let region_parts = both_none (listed_fault (codes "region") false region_keys ms) _ task_parts.1 in
    let device_parts = both_none (listed_fault (codes "device") false device_keys ms) _ region_parts.1 in
    let board = single_none (codes "board") board_keys (get_member (codes "board") ms) board_parts.0 in
    let supervisor = single_none (codes "supervisor") supervisor_keys (get_member (codes "supervisor") ms) supervisor_parts.0 in
    let of_board = members_in (codes "board") ms in
    let of_supervisor = members_in (codes "supervisor") ms in
    record {
      flash = number_kept 256 1048576 (at_key (codes "flash") (head_site (codes "board"))) (get_member (codes "flash") of_board) (lit< tt) (key_none board_keys (head_site (codes "board")) of_board 0 no_key (lit< tt) board);
      ram = number_kept 256 262144 (at_key (codes "ram") (head_site (codes "board"))) (get_member (codes "ram") of_board) (lit< tt) (key_none board_keys (head_site (codes "board")) of_board 1 no_key (lit< tt) board);
      fault = name_kept (at_key (codes "fault") (head_site (codes "supervisor"))) (get_member (codes "fault") of_supervisor) (key_none supervisor_keys (head_site (codes "supervisor")) of_supervisor 0 no_key (lit< tt) supervisor);
      tasks = listed_kept IsTask task_in (codes "task") true task_keys task_kept (get_member (codes "task") ms) task_parts.0;
      regions = listed_kept IsRegion region_in (codes "region") false region_keys region_kept (get_member (codes "region") ms) region_parts.0;
      devices = listed_kept IsDevice device_in (codes "device") false device_keys device_kept (get_member (codes "device") ms) device_parts.0;
      interrupts = listed_kept IsInterrupt interrupt_in (codes "interrupt") false interrupt_keys interrupt_kept (get_member (codes "interrupt") ms) device_parts.1;
      crossed = crossed;
    }

pub accepted_parts : (ms : Members) (app : AppData) → app ≡ app_in ms → form_fault ms ≡ None → cross_fault app ≡ None
    → IsAccepted app
accepted_parts ms app same forms crossed =
    subst IsAccepted (sym same) (accepted ms forms (subst (λ a. cross_fault a ≡ None) same crossed))
