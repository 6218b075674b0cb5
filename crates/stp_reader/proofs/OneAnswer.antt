-- Each text has one instance or one fault, and the readers answer it.
use Rattle.std.proofs.Common.{◌≡◌, ◌⊎◌, inl, inr, ℕ, Bool, true, false, Some, List, Result, Ok, Err, refl, sym, ap, ◌∙◌}
use Rattle.st_model.specs.Network.{Network}
use Rattle.amounts.specs.declared.scale.Scale.{Scale}
use Rattle.arborescence.specs.DiNetwork.{DiNetwork}
use Rattle.arborescence.specs.Problem as problem
use Rattle.stp_reader.specs.declared.mode.Mode.{Mode}
use Rattle.stp_reader.specs.declared.mode.Mode.TheVariants.{Plain, Any}
use Rattle.stp_reader.specs.declared.reason.Reason.{Reason}
use Rattle.stp_reader.specs.declared.fault.ReadError.{ReadError}
use Rattle.stp_reader.specs.declared.fault.ReadError.TheVariants.{Fault, NoMemory}
use Rattle.stp_reader.specs.Lines.{word_lines}
use Rattle.stp_reader.specs.Place.{File, Contents, undirected, directed, at_header}
use Rattle.stp_reader.specs.Reads.{network_from, scale_from, problem_in, scale_in, Reads, ReadsIn, ReadsFile, Refused, RefusedIn, IsRefusedBy, IsFileRefusedBy}
use Rattle.stp_reader.specs.Judging.{stated, stated_from}
use Rattle.stp_reader.specs.Reached.{IsFaultOf}
use Rattle.stp_reader.specs.Directed.{is_directed}
use Rattle.stp_reader.specs.Laws.{RefusedExactly, RefusedExactlyIn, ReadsAlike}
use Rattle.stp_reader.proofs.Whole.{is_read, read_again, is_refused_at, refused_again, ended_again}
use Rattle.stp_reader.proofs.FileKinds.{kind_of_contents, never_directed}
use Rattle.stp_reader.proofs.Alike.{all_alike, all_directed}

-- ---- what all lines state, and the definitions

pub reads_stated : (mode : Mode) (bytes : List ℕ) (c : Contents) (P : problem.Problem) (scale : Scale) → stated mode bytes ≡ Ok c → P ≡ problem_in c → scale ≡ scale_in c → ReadsIn mode bytes P scale
unfolding stated
reads_stated mode bytes c P scale e same unit =
    let read = is_read mode 1 at_header (word_lines bytes) c e in
    (c, record { right = read.0; contents = read.1 }, same, unit)

pub stated_reads : (mode : Mode) (bytes : List ℕ) (P : problem.Problem) (scale : Scale) → ReadsIn mode bytes P scale → (c : Contents) × (stated mode bytes ≡ Ok c) × (P ≡ problem_in c) × (scale ≡ scale_in c)
unfolding stated
stated_reads mode bytes P scale (c, read, same, unit) = (c, read_again mode 1 at_header (word_lines bytes) c read.right read.contents, same, unit)

pub refused_stated : (mode : Mode) (bytes : List ℕ) (line : ℕ) (reason : Reason) → stated mode bytes ≡ Err (line, reason) → RefusedIn mode bytes line reason
unfolding stated
refused_stated mode bytes line reason e =
    elim (is_refused_at mode 1 at_header (word_lines bytes) line reason e) [
      | inl b ↦ inl (record { before = b.before; bad = b.bad; others = b.others; split = b.split; number = b.place; right = b.right; why = b.why })
      | inr b ↦ inr (record { number = b.place; right = b.right; why = b.why })
    ]

pub stated_refused : (mode : Mode) (bytes : List ℕ) (line : ℕ) (reason : Reason) → RefusedIn mode bytes line reason → stated mode bytes ≡ Err (line, reason)
unfolding stated
stated_refused mode bytes line reason (inl b) = ap (stated_from mode 1 at_header) b.split ∙ refused_again mode 1 at_header b.before b.bad b.others line reason b.number b.right b.why
stated_refused mode bytes line reason (inr b) = ended_again mode 1 at_header (word_lines bytes) line reason b.number b.right b.why

-- ---- one answer, in either mode

decided : (mode : Mode) (bytes : List ℕ) (r : Result Contents (ℕ × Reason)) → stated mode bytes ≡ r → ((P : problem.Problem) × (scale : Scale) × ReadsIn mode bytes P scale) ⊎ ((line : ℕ) × (reason : Reason) × RefusedIn mode bytes line reason)
decided mode bytes (Ok c) e = inl (problem_in c, scale_in c, reads_stated mode bytes c (problem_in c) (scale_in c) e refl refl)
decided mode bytes (Err fault) e = inr (fault.0, fault.1, refused_stated mode bytes fault.0 fault.1 e)

never_both : (mode : Mode) (bytes : List ℕ) (c : Contents) (line : ℕ) (reason : Reason) → stated mode bytes ≡ Ok c → RefusedIn mode bytes line reason → ⊥
never_both mode bytes c line reason e refused = let d = stated_refused mode bytes line reason refused in absurd cc

-- what is stated is the one instance, at the one scale
pub same_problem : (mode : Mode) (bytes : List ℕ) (c : Contents) (P Q : problem.Problem) (scale other : Scale) → stated mode bytes ≡ Ok c → P ≡ problem_in c → scale ≡ scale_in c → ReadsIn mode bytes Q other → (P ≡ Q) × (scale ≡ other)
same_problem mode bytes c P Q scale other e same unit reads =
    let s = stated_reads mode bytes Q other reads in
    let d = s.1 in
    let files : c ≡ s.0 = cc in
    (same ∙ (ap problem_in files ∙ sym s.2), unit ∙ (ap scale_in files ∙ sym s.3))

same_fault : (mode : Mode) (bytes : List ℕ) (line line' : ℕ) (reason reason' : Reason) → RefusedIn mode bytes line reason → stated mode bytes ≡ Err (line', reason') → (line ≡ line') × (reason ≡ reason')
same_fault mode bytes line line' reason reason' refused d =
    let e = stated_refused mode bytes line reason refused in
    let here : ℕ × Reason = (line, reason) in
    let there : ℕ × Reason = (line', reason') in
    let same : here ≡ there = cc in
    (ap (λ (f : ℕ × Reason). f.0) same, ap (λ (f : ℕ × Reason). f.1) same)

pub exactly_in : (mode : Mode) (bytes : List ℕ) → RefusedExactlyIn mode bytes
exactly_in mode bytes = record {
  some = decided mode bytes (stated mode bytes) refl;
  not_both = λ P scale line reason reads refused. let s = stated_reads mode bytes P scale reads in never_both mode bytes s.0 line reason s.1 refused;
  one_instance = λ P Q scale other reads others. let s = stated_reads mode bytes P scale reads in same_problem mode bytes s.0 P Q scale other s.1 s.2 s.3 others;
  one_fault = λ line line' reason reason' refused others. same_fault mode bytes line line' reason reason' refused (stated_refused mode bytes line' reason' others);
}

-- ---- files of links alone

-- the instance of a file of links, as one of either kind
pub as_problem : (bytes : List ℕ) (I : Network) (scale : Scale) → Reads bytes I scale → ReadsIn Plain bytes (problem.plain I) scale
as_problem bytes I scale (f, read, same, unit) = (undirected f, read, ap problem.plain same, unit)

pub same_network : (I J : Network) → problem.plain I ≡ problem.plain J → I ≡ J
same_network I J e = cc

-- and back
pub as_network : (bytes : List ℕ) (I : Network) (scale : Scale) → ReadsIn Plain bytes (problem.plain I) scale → Reads bytes I scale
as_network bytes I scale (undirected f, read, same, unit) = (f, read, same_network I (network_from f) same, unit)
as_network bytes I scale (directed f, read, same, unit) = absurd cc

pub network_stated : (bytes : List ℕ) (f : File) (I : Network) (scale : Scale) → stated Plain bytes ≡ Ok (undirected f) → I ≡ network_from f → scale ≡ scale_from f → Reads bytes I scale
network_stated bytes f I scale e same unit = as_network bytes I scale (reads_stated Plain bytes (undirected f) (problem.plain I) scale e (ap problem.plain same) unit)

pub same_instance : (bytes : List ℕ) (f : File) (I J : Network) (scale other : Scale) → stated Plain bytes ≡ Ok (undirected f) → I ≡ network_from f → scale ≡ scale_from f → Reads bytes J other → (I ≡ J) × (scale ≡ other)
same_instance bytes f I J scale other e same unit reads =
    let both = same_problem Plain bytes (undirected f) (problem.plain I) (problem.plain J) scale other e (ap problem.plain same) unit (as_problem bytes J other reads) in
    (same_network I J both.0, both.1)

plain_decided : (bytes : List ℕ) (r : Result Contents (ℕ × Reason)) → stated Plain bytes ≡ r → ((I : Network) × (scale : Scale) × Reads bytes I scale) ⊎ ((line : ℕ) × (reason : Reason) × Refused bytes line reason)
plain_decided bytes (Ok (undirected f)) e = inl (network_from f, scale_from f, network_stated bytes f (network_from f) (scale_from f) e refl refl)
plain_decided bytes (Ok (directed f)) e = absurd (never_directed bytes f e)
plain_decided bytes (Err fault) e = inr (fault.0, fault.1, refused_stated Plain bytes fault.0 fault.1 e)

pub refused_exactly_lem : (bytes : List ℕ) → RefusedExactly bytes
refused_exactly_lem bytes =
    let exactly = exactly_in Plain bytes in
    record {
      some = plain_decided bytes (stated Plain bytes) refl;
      not_both = λ I scale line reason reads refused. exactly.not_both (problem.plain I) scale line reason (as_problem bytes I scale reads) refused;
      one_instance = λ I J scale other reads others. let both = exactly.one_instance (problem.plain I) (problem.plain J) scale other (as_problem bytes I scale reads) (as_problem bytes J other others) in (same_network I J both.0, both.1);
      one_fault = exactly.one_fault;
    }

-- ---- files in both modes

alike : (bytes : List ℕ) → is_directed bytes ≡ false → stated Plain bytes ≡ stated Any bytes
unfolding stated
alike bytes h = all_alike 1 at_header (word_lines bytes) refl h

told : (mode : Mode) (bytes : List ℕ) (c : Contents) → is_directed bytes ≡ true → stated mode bytes ≡ Ok c → kind_of_contents c ≡ Some true
unfolding stated
told mode bytes c h e = all_directed mode 1 at_header (word_lines bytes) c refl h e

-- an instance that is read in one mode, where the other states the same
in_other : (mode other : Mode) (bytes : List ℕ) (P : problem.Problem) (scale : Scale) → stated other bytes ≡ stated mode bytes → ReadsIn mode bytes P scale → ReadsIn other bytes P scale
in_other mode other bytes P scale e reads =
    let s = stated_reads mode bytes P scale reads in
    reads_stated other bytes s.0 P scale (e ∙ s.1) s.2 s.3

refused_in_other : (mode other : Mode) (bytes : List ℕ) (line : ℕ) (reason : Reason) → stated other bytes ≡ stated mode bytes → RefusedIn mode bytes line reason → RefusedIn other bytes line reason
refused_in_other mode other bytes line reason e refused = refused_stated other bytes line reason (e ∙ stated_refused mode bytes line reason refused)

plain_kind : (I : Network) (c : Contents) → problem.plain I ≡ problem_in c → kind_of_contents c ≡ Some true → ⊥
plain_kind I (undirected f) same k = cc
plain_kind I (directed f) same k = cc

plain_file : (mode : Mode) (bytes : List ℕ) (I : Network) (scale : Scale) → ReadsIn mode bytes (problem.plain I) scale → is_directed bytes ≡ false
plain_file mode bytes I scale reads = by_case (is_directed bytes) refl (stated_reads mode bytes (problem.plain I) scale reads)
  where
    by_case : (b : Bool) → is_directed bytes ≡ b → (c : Contents) × (stated mode bytes ≡ Ok c) × (problem.plain I ≡ problem_in c) × (scale ≡ scale_in c) → b ≡ false
    by_case false h s = refl
    by_case true h s = absurd (plain_kind I s.0 s.2 (told mode bytes s.0 h s.1))

directed_kind : (bytes : List ℕ) (D : DiNetwork) (c : Contents) → problem.directed D ≡ problem_in c → stated Plain bytes ≡ Ok c → ⊥
directed_kind bytes D (undirected f) same e = cc
directed_kind bytes D (directed f) same e = never_directed bytes f e

directed_file : (bytes : List ℕ) (D : DiNetwork) (scale : Scale) → ReadsFile bytes (problem.directed D) scale → is_directed bytes ≡ true
directed_file bytes D scale reads = by_case (is_directed bytes) refl (stated_reads Any bytes (problem.directed D) scale reads)
  where
    by_case : (b : Bool) → is_directed bytes ≡ b → (c : Contents) × (stated Any bytes ≡ Ok c) × (problem.directed D ≡ problem_in c) × (scale ≡ scale_in c) → b ≡ true
    by_case true h s = refl
    by_case false h s = absurd (directed_kind bytes D s.0 s.2 (alike bytes h ∙ s.1))

pub reads_alike_lem : (bytes : List ℕ) → ReadsAlike bytes
reads_alike_lem bytes = record {
  reads = λ h I scale. (
    λ reads. as_network bytes I scale (in_other Any Plain bytes (problem.plain I) scale (alike bytes h) reads),
    λ reads. in_other Plain Any bytes (problem.plain I) scale (sym (alike bytes h)) (as_problem bytes I scale reads),
  );
  refused = λ h line reason.
      (refused_in_other Any Plain bytes line reason (alike bytes h), refused_in_other Plain Any bytes line reason (sym (alike bytes h)));
  plain_file = plain_file Any bytes;
  links_file = λ I scale reads. plain_file Plain bytes I scale (as_problem bytes I scale reads);
  directed_file = directed_file bytes;
}

-- ---- what a reader answers

pub fault_refused : (bytes : List ℕ) (e : ReadError) → IsFaultOf (stated Plain bytes) e → IsRefusedBy bytes e
fault_refused bytes (Fault f) said = refused_stated Plain bytes f.line f.reason said
fault_refused bytes NoMemory said = tt

pub file_fault_refused : (bytes : List ℕ) (e : ReadError) → IsFaultOf (stated Any bytes) e → IsFileRefusedBy bytes e
file_fault_refused bytes (Fault f) said = refused_stated Any bytes f.line f.reason said
file_fault_refused bytes NoMemory said = tt

pub memory_alone : (mode : Mode) (bytes : List ℕ) (e : ReadError) (P : problem.Problem) (scale : Scale) → IsFaultOf (stated mode bytes) e → ReadsIn mode bytes P scale → e ≡ NoMemory
memory_alone mode bytes (Fault f) P scale said reads = let s = stated_reads mode bytes P scale reads in let d = s.1 in absurd cc
memory_alone mode bytes NoMemory P scale said reads = refl

-- what a reader of some kind answers
abbrev pub failing : {T : Type 0} → ReadError → Result T ReadError
failing e = Err e

pub that_fault : {T : Type 0} (mode : Mode) (bytes : List ℕ) (e : ReadError) (line : ℕ) (reason : Reason) → IsFaultOf (stated mode bytes) e → RefusedIn mode bytes line reason → (failing {T = T} e ≡ Err (Fault (record { line = line; reason = reason }))) ⊎ (failing {T = T} e ≡ Err NoMemory)
that_fault {T} mode bytes (Fault f) line reason said refused =
    let same = same_fault mode bytes line f.line reason f.reason refused said in
    inl (rw (same.0, same.1) refl)
that_fault mode bytes NoMemory line reason said refused = inr refl

pub no_fault : {A : Type 0} (mode : Mode) (bytes : List ℕ) (c : Contents) (line : ℕ) (reason : Reason) → stated mode bytes ≡ Ok c → RefusedIn mode bytes line reason → A
no_fault mode bytes c line reason e refused = absurd (never_both mode bytes c line reason e refused)
