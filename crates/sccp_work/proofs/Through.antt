-- What holds of all that a work may write.
use Rattle.std.proofs.Common.{◌≡◌, ℕ, List, [], ◌++◌, length, Option, sym, ◌∙◌, ap, subst, append-nil, append_assoc, take_all, inl, inr}
use Rattle.std.proofs.Common.{arith}
use Rattle.std.specs.Io.{StartsWith}
use Rattle.sccp_io.specs.Files.{Contents, Reads}
use Rattle.sccp_work.specs.Numbers.{AreNumbers}
use Rattle.sccp_work.specs.Questions.{Reply, IsTrueOf}
use Rattle.sccp_work.specs.Work.{Work, finish, print, read, read_on, ask, serve, Ends, ComesToReading}
use Rattle.sccp_work.specs.Work.{BeginsWith}
use Rattle.sccp_work.specs.declared.status.Status.{Status}

-- After what was written before: one thing holds of the whole if the work ends with an answer. Another holds of what is
-- before each reading, and a third of each front.
abbrev pub Through : (ends : Status → List ℕ → Type 0) (reads fronts : List ℕ → Type 0) (k : Option Contents) → Work → List ℕ → Type 0
Through ends reads fronts k (finish s) acc = ends s acc
Through ends reads fronts k (print t w) acc = ((front : List ℕ) → StartsWith t front → fronts (acc ++ front))
    × Through ends reads fronts k w (acc ++ t)
Through ends reads fronts k (read name f) acc = reads acc × ((octets : List ℕ) → Reads k name octets
    → Through ends reads fronts k (f octets) acc)
Through ends reads fronts k (ask question f) acc =
    (reply : Reply question) → IsTrueOf question reply → Through ends reads fronts k (f reply) acc
Through ends reads fronts k (read_on w) acc = reads acc × Through ends reads fronts k w acc
Through ends reads fronts k (serve b f) acc = (ns : List ℕ) → AreNumbers b ns → Through ends reads fronts k (f ns) acc

whole_text : (acc text : List ℕ) → text ≡ [] → acc ≡ acc ++ text
whole_text acc text e = sym (ap (λ t. acc ++ t) e ∙ append-nil acc)

further : (acc t rest text : List ℕ) → text ≡ t ++ rest → (acc ++ t) ++ rest ≡ acc ++ text
further acc t rest text e = append_assoc acc t rest ∙ sym (ap (λ u. acc ++ u) e)

pub ends_of : (ends : Status → List ℕ → Type 0) (reads fronts : List ℕ
    → Type 0) (k : Option Contents) (w : Work) (acc text : List ℕ) (s : Status)
    → Through ends reads fronts k w acc → Ends k w s text → ends s (acc ++ text)
ends_of ends reads fronts k (finish z) acc text s h e = subst (ends s) (whole_text acc text e.1) (subst (λ y. ends y acc) (sym e.0) h)
ends_of ends reads fronts k (print t w) acc text s h e = subst (ends s) (further acc t e.0 text e.1)
    (ends_of ends reads fronts k w (acc ++ t) e.0 s h.1 e.2)
ends_of ends reads fronts k (read name f) acc text s h e = ends_of ends reads fronts k (f e.0) acc text s (h.1 e.0 e.1) e.2
ends_of ends reads fronts k (ask question f) acc text s h e = ends_of ends reads fronts k (f e.0) acc text s (h e.0 e.1) e.2
ends_of ends reads fronts k (read_on w) acc text s h e = ends_of ends reads fronts k w acc text s h.1 e
ends_of ends reads fronts k (serve b f) acc text s h e = ends_of ends reads fronts k (f e.0) acc text s (h e.0 e.1) e.2

pub reads_of : (ends : Status → List ℕ → Type 0) (reads fronts : List ℕ → Type 0) (k : Option Contents) (w : Work) (acc text : List ℕ)
    → Through ends reads fronts k w acc → ComesToReading k w text → reads (acc ++ text)
reads_of ends reads fronts k (finish z) acc text h e = absurd e
reads_of ends reads fronts k (print t w) acc text h e = subst reads (further acc t e.0 text e.1)
    (reads_of ends reads fronts k w (acc ++ t) e.0 h.1 e.2)
reads_of ends reads fronts k (read name f) acc text h (inl e) = subst reads (whole_text acc text e) h.0
reads_of ends reads fronts k (read name f) acc text h (inr e) = reads_of ends reads fronts k (f e.0) acc text (h.1 e.0 e.1) e.2
reads_of ends reads fronts k (ask question f) acc text h e = reads_of ends reads fronts k (f e.0) acc text (h e.0 e.1) e.2
reads_of ends reads fronts k (read_on w) acc text h (inl e) = subst reads (whole_text acc text e) h.0
reads_of ends reads fronts k (read_on w) acc text h (inr e) = reads_of ends reads fronts k w acc text h.1 e
reads_of ends reads fronts k (serve b f) acc text h e = reads_of ends reads fronts k (f e.0) acc text (h e.0 e.1) e.2

pub starts_whole : (t : List ℕ) → StartsWith t t
starts_whole t = take_all (length t) t (omega arith)

pub fronts_of : (ends : Status → List ℕ → Type 0) (reads fronts : List ℕ → Type 0) (k : Option Contents) (w : Work) (acc text : List ℕ)
    → fronts acc → Through ends reads fronts k w acc → BeginsWith k w text → fronts (acc ++ text)
fronts_of ends reads fronts k (finish z) acc text so h e = subst fronts (whole_text acc text e) so
fronts_of ends reads fronts k (print t w) acc text so h (inl e) = h.0 text e
fronts_of ends reads fronts k (print t w) acc text so h (inr e) =
    subst fronts (further acc t e.0 text e.1) (fronts_of ends reads fronts k w (acc ++ t) e.0 (h.0 t (starts_whole t)) h.1 e.2)
fronts_of ends reads fronts k (read name f) acc text so h (inl e) = subst fronts (whole_text acc text e) so
fronts_of ends reads fronts k (read name f) acc text so h (inr e) = fronts_of ends reads fronts k (f e.0) acc text so (h.1 e.0 e.1) e.2
fronts_of ends reads fronts k (ask question f) acc text so h (inl e) = subst fronts (whole_text acc text e) so
fronts_of ends reads fronts k (ask question f) acc text so h (inr e) = fronts_of ends reads fronts k (f e.0) acc text so (h e.0 e.1) e.2
fronts_of ends reads fronts k (read_on w) acc text so h e = fronts_of ends reads fronts k w acc text so h.1 e
fronts_of ends reads fronts k (serve b f) acc text so h (inl e) = subst fronts (whole_text acc text e) so
fronts_of ends reads fronts k (serve b f) acc text so h (inr e) = fronts_of ends reads fronts k (f e.0) acc text so (h e.0 e.1) e.2
