-- Why a file is not accepted.
use Rattle.std.proofs.Common.{◌≡◌, ℕ, ◌<◌, ◌≤◌, Bool, true, false, List, length, Option, Some, None, suc, refl, sym, ap, subst, ◌∙◌, arith, cond, nat_lt, ltb, string_bytes}
use Rattle.std.proofs.lemmas.Bool.Decides.{nat_tests}
use Rattle.std.proofs.lemmas.Option.{same_Some}
use Rattle.std.proofs.lemmas.List.{length-replicate}
use Rattle.std.specs.Prelude.{replicate}
use Rattle.outside_io.specs.Outside.{WhereSeen, Rose}
use Rattle.command_files.specs.declared.file_faults.FileFault.{FileFault}
use Rattle.command_files.specs.declared.file_faults.FileFault.TheVariants as file_faults
use Rattle.command_files.specs.declared.file_faults.NamedFault.{NamedFault}
use Rattle.command_files.specs.declared.file_faults.NamedFault.TheVariants as named_faults
use Rattle.command_files.specs.Contents.{Why, at_number, file_limit, trace_limit, unless_long, image_refusal, script_refusal, app_refusal, source_refusal, trace_refusal, names_refusal}
use Rattle.outside_io.specs.Seen.{FilesSeen}
use Rattle.command_files.specs.Sources.{File, MayBe, MayBeRefused}
use Rattle.command_files.specs.FileFaults.{IsCannotRead, MayBeLong, IsFaultFor, CannotTake, IsFaultOf, IsNamedFaultOf}
use Rattle.app_toml.specs.Apps.{AppData}

-- ## long and short files

abbrev pub too_long : ℕ → Option Why
too_long limit = Some (at_number (0, limit))

pub long_refused : (limit : ℕ) (bytes : List ℕ) (r : Option Why) → limit < length bytes → unless_long limit bytes r ≡ too_long limit
long_refused limit bytes r lt = let t : nat_lt limit (length bytes) ≡ true = grind (arith, nat_tests) in ap (λ (b : Bool). cond b (too_long limit) r) t

pub long_image : (bytes : List ℕ) → file_limit < length bytes → image_refusal bytes ≡ too_long file_limit
unfolding image_refusal
long_image bytes lt = long_refused file_limit bytes _ lt

pub long_script : (bytes : List ℕ) → file_limit < length bytes → script_refusal bytes ≡ too_long file_limit
unfolding script_refusal
long_script bytes lt = long_refused file_limit bytes _ lt

pub long_app : (bytes : List ℕ) → file_limit < length bytes → app_refusal bytes ≡ too_long file_limit
unfolding app_refusal
long_app bytes lt = long_refused file_limit bytes _ lt

pub long_source : (app : AppData) (i : ℕ) (bytes : List ℕ) → file_limit < length bytes → source_refusal app i bytes ≡ too_long file_limit
unfolding source_refusal
long_source app i bytes lt = long_refused file_limit bytes _ lt

pub long_names : (tasks : ℕ) (bytes : List ℕ) → file_limit < length bytes → names_refusal tasks bytes ≡ too_long file_limit
unfolding names_refusal
long_names tasks bytes lt = long_refused file_limit bytes _ lt

pub long_trace : (bytes : List ℕ) → trace_limit < length bytes → trace_refusal bytes ≡ too_long trace_limit
unfolding trace_refusal
long_trace bytes lt = long_refused trace_limit bytes _ lt

pub short : (limit : ℕ) (bytes : List ℕ) (r : Option Why) → length bytes ≤ limit → unless_long limit bytes r ≡ r
short limit bytes r le = let e : ltb limit (length bytes) ≡ false = grind (arith, nat_tests) in rw e refl

-- what may be there where nothing is seen
a_longer : (n : ℕ) → (bytes : List ℕ) × (n < length bytes)
a_longer n =
    let zeros : List ℕ = replicate (suc n) 0 in
    let many : length zeros ≡ suc n = length-replicate (suc n) 0 in
    (zeros, omega (arith, many))

longer_than : (n : ℕ) (o : Option (List ℕ)) → WhereSeen o (λ all. n < length all) → (bytes : List ℕ) × WhereSeen o (λ all. bytes ≡ all) × (n < length bytes)
longer_than n None long = let more = a_longer n in (more.0, (λ all is. absurd (cc)), more.1)
longer_than n (Some all) long = (all, (λ c is. same_Some all c is), long all refl)

may_be_long : (seen : List ℕ → Option (List ℕ)) (name : List ℕ) (limit : ℕ) → WhereSeen (seen name) (λ all. limit < length all) → MayBeLong seen name limit
may_be_long seen name limit long = let more = longer_than limit (seen name) long in record { bytes = more.0; held = more.1; long = more.2 }

-- a file that is too long
pub by_length : (a b : FilesSeen) (name : List ℕ) (limit : ℕ) (file_fault : FileFault) → IsFaultFor (too_long limit) file_fault → WhereSeen (a.contents name) (λ all. limit < length all)
    → CannotTake a b name limit file_fault
by_length a b name limit file_faults.Memory at long = tt
by_length a b name limit file_faults.CannotRead at long = absurd at
by_length a b name limit (file_faults.Refused cause place) at long =
    let why : Why = (cause, string_bytes place) in
    let same : at_number (0, limit) ≡ why = same_Some (at_number (0, limit)) why at in
    (ap (λ (p : Why). p.0) (sym same), ap (λ (p : Why). p.1) (sym same), may_be_long a.contents name limit long)

-- ## from contents to their file

pub cannot_take : (a b : FilesSeen) (f : File) (file_fault : FileFault) → ((bytes : List ℕ) → f.limit < length bytes → f.refusal bytes ≡ too_long f.limit)
    → CannotTake a b f.name f.limit file_fault → IsFaultOf a b f file_fault
cannot_take a b f file_faults.Memory long t = tt
cannot_take a b f file_faults.CannotRead long t = t
cannot_take a b f (file_faults.Refused cause place) long t =
    let reason : List ℕ → Option Why = λ p. Some (0, p) in
    let number : ℕ → Option Why = λ n. Some (n, string_bytes place) in
    record { bytes = t.2.bytes; held = t.2.held; refused = long t.2.bytes t.2.long ∙ ap reason (sym t.1) ∙ ap number (sym t.0) }

pub refused_in : (a b : FilesSeen) (f : File) (bytes : List ℕ) (file_fault : FileFault) → MayBe a.contents f.name bytes → IsFaultFor (f.refusal bytes) file_fault → IsFaultOf a b f file_fault
refused_in a b f bytes file_faults.Memory may t = tt
refused_in a b f bytes file_faults.CannotRead may t = absurd t
refused_in a b f bytes (file_faults.Refused cause place) may t = record { bytes = bytes; held = may; refused = t }

-- where its contents are seen, they are those that are refused
pub where_seen : (seen : List ℕ → Option (List ℕ)) (f : File) (why : Why) → MayBeRefused seen f why → WhereSeen (seen f.name) (λ all. f.refusal all ≡ Some why)
where_seen seen f why h = λ all is. ap f.refusal (sym (h.held all is)) ∙ h.refused

-- ## from an earlier call on

rose_earlier : (a b c : ℕ) → a ≤ b → Rose b c → Rose a c
rose_earlier a b c le rose = omega arith

pub read_earlier : (a b c : FilesSeen) (name : List ℕ) → a.read_faults ≤ b.read_faults → IsCannotRead b c name → IsCannotRead a c name
read_earlier a b c name le h = record { rose = rose_earlier a.read_faults b.read_faults c.read_faults le h.rose; named = h.named }

pub faults_earlier : (a b c : FilesSeen) (f : File) (named_fault : NamedFault) → b.contents ≡ a.contents → a.read_faults ≤ b.read_faults → IsNamedFaultOf b c f named_fault → IsNamedFaultOf a c f named_fault
faults_earlier a b c f named_faults.Memory same le h = tt
faults_earlier a b c f (named_faults.CannotRead name) same le h = (h.0, read_earlier a b c f.name le h.1)
faults_earlier a b c f (named_faults.Refused name cause place) same le h =
    (h.0, subst (λ (t : List ℕ → Option (List ℕ)). MayBeRefused t f (cause, string_bytes place)) same h.1)
