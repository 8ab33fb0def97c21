-- The names of the tasks that are built: each a name, and those of a task different; how many bytes they take.
use Rattle.std.proofs.Common.{◌≡◌, ◌∙◌, ℕ, suc, ◌+◌, ◌*◌, ◌≤◌, ◌<◌, List, [], ◌∷◌, ◌++◌, length, get_or, map, Global, String, string_bytes, drop, drop-cons, nat_le, nat_lt, length-append, append_assoc, refl, sym, ap, subst, arith}
use Rattle.std.specs.List.{flat_map}
use Rattle.std.specs.Prelude.{All}
use Rattle.std.proofs.lemmas.Bool.{leb-true, and_parts}
use Rattle.std.proofs.lemmas.List.{get_or-map, length-map}
use Rattle.app_toml.specs.Accepted.{IsAccepted, IsName}
use Rattle.app_toml.specs.Apps.{AppData, TaskData}
use Rattle.app_toml.specs.Places.{Text}
use Rattle.app_toml.specs.Relations.{Relations}
use Rattle.app_toml.specs.Sites.{task_of}
use Rattle.app_toml.specs.declared.parts.TaskSpec.{TaskSpec}
use Rattle.image_format.specs.ImageData.{ImageTask, all_names, name_bytes, names_bytes}
use Rattle.image_format.proofs.Named.{AreNames}
use Rattle.image_build.specs.Built.{tasks_from}
use Rattle.image_build.specs.Layout.{no_task, task_at}
use Rattle.image_build.proofs.Finding.{is_task_in}
use Rattle.image_build.proofs.Known.{few_notes}
use Rattle.image_build.proofs.Naming.{each_from}
use Rattle.image_build.proofs.EachTask.{built_count, each_built}
use Rattle.image_build.proofs.Walking.{Each, each_all}

-- ---- names that are accepted

pub are_names : (app : AppData) → IsAccepted app → Relations app → All (λ t. AreNames t.names) (tasks_from app 0 app.tasks)
are_names app a r =
    each_all (λ t. AreNames t.names) (tasks_from app 0 app.tasks)
    (each_built app (λ t. AreNames t.names) 0 app.tasks (λ i lt. record {
      named = (a.tasks i no_task lt).notifications;
      different = (r.names.own i no_task lt).notifications;
    }))

-- ---- their bytes

-- a name has at most 24 bytes
pub short : (name : Text) → IsName name → length name ≤ 24
short name h =
    let front = (and_parts _ _ (and_parts _ _ h).0).0 in
    leb-true (length name) 24 (and_parts (nat_lt 0 (length name)) (nat_le (length name) 24) front).1

-- of the code's lists
names_short : (ns : List (String Global)) → All IsName (map string_bytes ns) → All (λ n. length (string_bytes n) ≤ 24) ns
names_short ns h j d lt =
    short (string_bytes (get_or ns j d)) (subst IsName (get_or-map string_bytes ns j d [] lt) (h j [] (omega (arith, lt, length-map ns string_bytes))))

pub short_in : (app : AppData) (xs : List TaskSpec) → IsAccepted app → map task_of xs ≡ app.tasks → (k : ℕ) (t : TaskSpec) → k < length xs → t ≡ get_or xs k t
    → All (λ n. length (string_bytes n) ≤ 24) t.notifications.items
short_in app xs a m k t lt is =
    subst (λ (s : TaskSpec). All (λ n. length (string_bytes n) ≤ 24) s.notifications.items) (sym is)
    (names_short (get_or xs k t).notifications.items (is_task_in app xs a m k t lt).notifications)

names_size : (names : List Text) → Each IsName names → length (names_bytes names) ≤ 25 * length names
names_size [] h = omega arith
names_size (n ∷ ns) h = omega (arith, length-append (name_bytes n) (names_bytes ns), short n h.0, names_size ns h.1)

all_size : (ts : List ImageTask) → Each (λ t. length (names_bytes t.names) ≤ 800) ts → length (all_names ts) ≤ 800 * length ts
all_size [] h = omega arith
all_size (t ∷ ts) h = omega (arith, length-append (names_bytes t.names) (all_names ts), h.0, all_size ts h.1)

-- of so many tasks, each with at most 32 names of at most 25 bytes with their lengths
pub all_short : (app : AppData) → IsAccepted app → length (all_names (tasks_from app 0 app.tasks)) ≤ 800 * length app.tasks
all_short app a =
    let ts = tasks_from app 0 app.tasks in
    let each : Each (λ t. length (names_bytes t.names) ≤ 800) ts =
    each_built app (λ t. length (names_bytes t.names) ≤ 800) 0 app.tasks (λ i lt.
    let names = (task_at app i).notifications in
    omega (arith, names_size names (each_from IsName [] names (λ k below. (a.tasks i no_task lt).notifications k [] below)), few_notes app a i lt)) in
    omega (arith, all_size ts each, built_count app 0 app.tasks)

-- ---- lists of bytes that grow

pub bytes_more : {T : Type 0} (spell : T → List ℕ) (out more all : List ℕ) (xs : List T) (k : ℕ) (item : T) → k < length xs → item ≡ get_or xs k item
    → more ≡ out ++ spell item → out ++ flat_map spell (drop k xs) ≡ all → more ++ flat_map spell (drop (k + 1) xs) ≡ all
bytes_more {T} spell out more all xs k item lt at is before =
    let rest : List ℕ = flat_map spell (drop (k + 1) xs) in
    let next : suc k ≡ k + 1 = omega arith in
    let split : drop k xs ≡ item ∷ drop (k + 1) xs =
    drop-cons xs k item lt ∙ ap (λ (x : T). x ∷ drop (suc k) xs) (sym at) ∙ ap (λ (n : ℕ). item ∷ drop n xs) next in
    let first : out ++ (spell item ++ rest) ≡ all = subst (λ (ys : List T). out ++ flat_map spell ys ≡ all) split before in
    ap (λ (bs : List ℕ). bs ++ rest) is ∙ append_assoc out (spell item) rest ∙ first

pub flat_map_twice : {A B : Type 0} (f : B → List ℕ) (g : A → B) (xs : List A) → flat_map f (map g xs) ≡ flat_map (λ x. f (g x)) xs
flat_map_twice f g [] = refl
flat_map_twice f g (x ∷ xs) = ap (λ (bs : List ℕ). f (g x) ++ bs) (flat_map_twice f g xs)

pub names_built : (app : AppData) (k : ℕ) (ts : List TaskData) → all_names (tasks_from app k ts) ≡ flat_map (λ t. names_bytes t.notifications) ts
names_built app k [] = refl
names_built app k (t ∷ ts) = ap (λ (bs : List ℕ). names_bytes t.notifications ++ bs) (names_built app (k + 1) ts)
