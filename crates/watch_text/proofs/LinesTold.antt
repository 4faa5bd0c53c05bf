-- The printed line of a message gives its number, and its verdict's kind.
use Rattle.std.specs.Prelude.{ℕ, ◌<◌, ◌^◌, ◌==◌, ◌⊎◌, if◌then◌else◌, true, false, List, [], ◌∷◌, ◌++◌, codes, decimal, Option, Some, None}
use Rattle.std.specs.Option.{option_map_or}
use Rattle.std.proofs.Common.{◌≡◌, refl, sym, subst, ◌∙◌, ap, arith, append_assoc, get_or, inl, inr}
use Rattle.std.proofs.lemmas.List.{append_cancel_left}
use Rattle.plan_model.specs.Network.{Network}
use Rattle.sccp_report.specs.Faults.{fault_words}
use Rattle.sccp_report.proofs.Parted.{Stops, IsDecimal, number_parted, no_blank}
use Rattle.relay_ways.specs.declared.explanation.Explanation.{Explanation}
use Rattle.relay_watch.specs.declared.event.Event.{Event}
use Rattle.relay_watch.specs.declared.line.Line.{Line}
use Rattle.relay_watch.specs.declared.verdict.Verdict.{Verdict}
use Rattle.relay_watch.specs.declared.verdict.Verdict.TheVariants.{Undecodable, Connection, Other, Arrived, Explained, Management, Own}
use Rattle.relay_watch.specs.declared.verdict.Verdict.TheVariants.{Unexplained}
use Rattle.watch_text.specs.Ways.{ways_text, why_words}
use Rattle.watch_text.specs.Lines.{TypeName, name_in, unit_types, unit_name, connection_name, status_words, explained_words, verdict_words}
use Rattle.watch_text.specs.Lines.{connection_word, management_word, packet_words, point_text, head, unanswered_line, line_text}
use Rattle.watch_text.specs.Told.{kind}

-- ---- texts that are put one after another

three : (a b c d : List ℕ) → a ++ b ++ c ++ d ≡ a ++ (b ++ c ++ d)
three [] b c d = refl
three (x ∷ a) b c d = ap (λ (t : List ℕ). x ∷ t) (three a b c d)

four : (a b c d e : List ℕ) → a ++ b ++ c ++ d ++ e ≡ a ++ (b ++ c ++ d ++ e)
four [] b c d e = refl
four (x ∷ a) b c d e = ap (λ (t : List ℕ). x ∷ t) (four a b c d e)

five : (a b c d e f : List ℕ) → a ++ b ++ c ++ d ++ e ++ f ≡ a ++ (b ++ c ++ d ++ e ++ f)
five [] b c d e f = refl
five (x ∷ a) b c d e f = ap (λ (t : List ℕ). x ∷ t) (five a b c d e f)

ten : (a b c d e f g h i j : List ℕ) → a ++ b ++ c ++ d ++ e ++ f ++ g ++ h ++ i ++ j ≡ a ++ (b ++ c ++ d ++ e ++ f ++ g ++ h ++ i ++ j)
ten [] b c d e f g h i j = refl
ten (x ∷ a) b c d e f g h i j = ap (λ (t : List ℕ). x ∷ t) (ten a b c d e f g h i j)

-- ---- the number of a line

-- what follows the number
abbrev after_number : Network → Option ℕ → Event → Line → List ℕ
after_number plan packet e line =
    packet_words packet ++ codes " from " ++ point_text plan e.origin ++ codes " to " ++ point_text plan e.destination ++ codes " "
    ++ verdict_words e.octets line.verdict ++ codes "\n" ++ option_map_or (unanswered_line plan) line.unanswered []

number_first : (plan : Network) (packet : Option ℕ) (e : Event) (line : Line)
    → line_text plan packet e line ≡ decimal e.number ++ after_number plan packet e line
unfolding line_text head packet_words
number_first plan packet e line = ten (decimal e.number) (packet_words packet) (codes " from ") (point_text plan e.origin) (codes " to ")
    (point_text plan e.destination) (codes " ") (verdict_words e.octets line.verdict) (codes "\n")
    (option_map_or (unanswered_line plan) line.unanswered [])

number_stops : (plan : Network) (packet : Option ℕ) (e : Event) (line : Line) → Stops IsDecimal (after_number plan packet e line)
unfolding packet_words
number_stops plan None e line = no_blank
number_stops plan (Some packet) e line = no_blank

pub line_tells_number : (old new : Network) (p q : Option ℕ) (e f : Event) (v w : Line) → e.number < 2 ^ 64 → f.number < 2 ^ 64
    → line_text old p e v ≡ line_text new q f w → e.number ≡ f.number
line_tells_number old new p q e f v w he hf same =
    (number_parted e.number f.number (after_number old p e v) (after_number new q f w) he hf (number_stops old p e v)
    (number_stops new q f w)
    (sym (number_first old p e v) ∙ same ∙ number_first new q f w)).0

-- ---- the kind of a verdict

-- nothing, or first what is not a small letter
abbrev NotSmall : List ℕ → Type 0
NotSmall [] = Unit {0}
NotSmall (c ∷ cs) = c < 97

-- the same of a text that is there
abbrev BeginsOther : List ℕ → Type 0
BeginsOther [] = Unit {0} → ⊥
BeginsOther (c ∷ cs) = c < 97

joined : (a b : List ℕ) → NotSmall a → BeginsOther b → BeginsOther (a ++ b)
joined [] b ha hb = hb
joined (x ∷ a) b ha hb = ha

-- no name of a table begins with a small letter
abbrev EachNotSmall : List TypeName → Type 0
EachNotSmall [] = Unit {0}
EachNotSmall (t ∷ ts) = NotSmall t.name × EachNotSmall ts

name_not_small : (code : ℕ) (ts : List TypeName) → EachNotSmall ts → NotSmall (name_in code ts)
name_not_small code [] h = tt
name_not_small code (t ∷ ts) h =
    elim (t.code == code) as (λ b. NotSmall (if b then t.name else name_in code ts)) [
      | true ↦ h.0
      | false ↦ name_not_small code ts h.1
    ]

unit_not_small : (octets : List ℕ) → NotSmall (unit_name octets)
unfolding unit_name
unit_not_small [] = tt
unit_not_small (code ∷ octets) =
    name_not_small code unit_types (omega arith, (omega arith, (omega arith, (omega arith, (omega arith, (omega arith, tt))))))

-- what is printed of a verdict after the name of the type, to the end of the line and after it
abbrev tail : List ℕ → Verdict → List ℕ → List ℕ
tail octets (Undecodable fault) r = codes "undecodable " ++ fault_words fault ++ codes "\n" ++ r
tail octets Connection r = connection_word ++ connection_name octets ++ codes "\n" ++ r
tail octets Other r = codes " other" ++ codes "\n" ++ r
tail octets Arrived r = codes "\n" ++ r
tail octets (Explained by ways) r = explained_words by ways ++ codes "\n" ++ r
tail octets (Management status) r = management_word ++ status_words status ++ codes "\n" ++ r
tail octets (Own ssn) r = codes " own " ++ decimal ssn ++ codes "\n" ++ r
tail octets (Unexplained why) r = codes " unexplained " ++ why_words why ++ codes "\n" ++ r

-- What is printed of a verdict begins with the name of the type and then what is no small letter, or it begins with a small letter.
abbrev NamesType : List ℕ → Verdict → List ℕ → Type 0
NamesType octets v r = (verdict_words octets v ++ codes "\n" ++ r ≡ unit_name octets ++ tail octets v r) × BeginsOther (tail octets v r)

abbrev NamesNone : List ℕ → Verdict → List ℕ → Type 0
NamesNone octets v r = (verdict_words octets v ++ codes "\n" ++ r ≡ tail octets v r) × (BeginsOther (tail octets v r) → ⊥)

sorted : (octets : List ℕ) (v : Verdict) (r : List ℕ) → NamesType octets v r ⊎ NamesNone octets v r
unfolding verdict_words explained_words connection_word management_word
sorted octets (Undecodable fault) r = inr (refl, λ (h : 117 < 97). omega (arith, h))
sorted octets Connection r = inr (refl, λ (h : 99 < 97). omega (arith, h))
sorted octets Other r = inl (three (unit_name octets) (codes " other") (codes "\n") r, omega arith)
sorted octets Arrived r = inl (append_assoc (unit_name octets) (codes "\n") r, omega arith)
sorted octets (Explained by ways) r = inl (three (unit_name octets) (explained_words by ways) (codes "\n") r, omega arith)
sorted octets (Management status) r = inr (refl, λ (h : 109 < 97). omega (arith, h))
sorted octets (Own ssn) r = inl (four (unit_name octets) (codes " own ") (decimal ssn) (codes "\n") r, omega arith)
sorted octets (Unexplained why) r = inl (four (unit_name octets) (codes " unexplained ") (why_words why) (codes "\n") r, omega arith)

same_tail : (octets : List ℕ) (v w : Verdict) (r s : List ℕ) → NamesType octets v r ⊎ NamesNone octets v r
    → NamesType octets w s ⊎ NamesNone octets w s → verdict_words octets v ++ codes "\n" ++ r ≡ verdict_words octets w ++ codes "\n" ++ s
    → tail octets v r ≡ tail octets w s
same_tail octets v w r s (inl a) (inl b) e = append_cancel_left (unit_name octets) _ _ (sym a.0 ∙ e ∙ b.0)
same_tail octets v w r s (inl a) (inr b) e =
    absurd (b.1 (subst BeginsOther (sym a.0 ∙ e ∙ b.0) (joined (unit_name octets) (tail octets v r) (unit_not_small octets) a.1)))
same_tail octets v w r s (inr a) (inl b) e =
    absurd (a.1 (subst BeginsOther (sym b.0 ∙ sym e ∙ a.0) (joined (unit_name octets) (tail octets w s) (unit_not_small octets) b.1)))
same_tail octets v w r s (inr a) (inr b) e = sym a.0 ∙ e ∙ b.0

-- the kind, by the first octet, and for three kinds with a blank there by the second and the third
abbrev by_third : ℕ → ℕ
by_third c = if c == 116 then 2 else 6

abbrev by_second : ℕ → ℕ → ℕ
by_second b c = if b == 101 then 4 else if b == 117 then 7 else by_third c

abbrev by_first : ℕ → ℕ → ℕ → ℕ
by_first a b c =
    if a == 117 then 0 else if a == 99 then 1 else if a == 109 then 5 else if a == 10 then 3 else by_second b c

abbrev seen : List ℕ → ℕ
seen t = by_first (get_or t 0 0) (get_or t 1 0) (get_or t 2 0)

kind_seen : (octets : List ℕ) (v : Verdict) (r : List ℕ) → seen (tail octets v r) ≡ kind v
unfolding explained_words connection_word management_word
kind_seen octets (Undecodable fault) r = refl
kind_seen octets Connection r = refl
kind_seen octets Other r = refl
kind_seen octets Arrived r = refl
kind_seen octets (Explained by ways) r = refl
kind_seen octets (Management status) r = refl
kind_seen octets (Own ssn) r = refl
kind_seen octets (Unexplained why) r = refl

-- what the line has after its verdict
abbrev rest_of : Network → Line → List ℕ
rest_of plan line = option_map_or (unanswered_line plan) line.unanswered []

tails_same : (plan : Network) (packet : Option ℕ) (e : Event) (v w : Line) → line_text plan packet e v ≡ line_text plan packet e w
    → tail e.octets v.verdict (rest_of plan v) ≡ tail e.octets w.verdict (rest_of plan w)
unfolding line_text
tails_same plan packet e v w same =
    same_tail e.octets v.verdict w.verdict (rest_of plan v) (rest_of plan w) (sorted e.octets v.verdict (rest_of plan v))
    (sorted e.octets w.verdict (rest_of plan w))
    (append_cancel_left (head plan packet e) _ _
    (sym (three (head plan packet e) (verdict_words e.octets v.verdict) (codes "\n") (rest_of plan v)) ∙ same
    ∙ three (head plan packet e) (verdict_words e.octets w.verdict) (codes "\n") (rest_of plan w)))

pub line_tells_kind : (plan : Network) (packet : Option ℕ) (e : Event) (v w : Line) → line_text plan packet e v ≡ line_text plan packet e w
    → kind v.verdict ≡ kind w.verdict
line_tells_kind plan packet e v w same =
    sym (kind_seen e.octets v.verdict (rest_of plan v)) ∙ ap seen (tails_same plan packet e v w same)
    ∙ kind_seen e.octets w.verdict (rest_of plan w)

-- ---- the arrival that explains it

number_in : (octets : List ℕ) (a : ℕ) (xs : List Explanation) (r : List ℕ)
    → tail octets (Explained a xs) r ≡ codes " explained by " ++ (decimal a ++ (codes " " ++ ways_text xs ++ codes "\n" ++ r))
unfolding explained_words
number_in octets a xs r =
    five (codes " explained by ") (decimal a) (codes " ") (ways_text xs) (codes "\n") r
    ∙ ap (λ (t : List ℕ). codes " explained by " ++ t) (four (decimal a) (codes " ") (ways_text xs) (codes "\n") r)

reason_same : (octets : List ℕ) (a b : ℕ) (xs ys : List Explanation) (r s : List ℕ) → a < 2 ^ 64 → b < 2 ^ 64
    → tail octets (Explained a xs) r ≡ tail octets (Explained b ys) s → a ≡ b
reason_same octets a b xs ys r s ha hb e =
    (number_parted a b (codes " " ++ ways_text xs ++ codes "\n" ++ r) (codes " " ++ ways_text ys ++ codes "\n" ++ s) ha hb no_blank no_blank
    (append_cancel_left (codes " explained by ") _ _ (sym (number_in octets a xs r) ∙ e ∙ number_in octets b ys s))).0

pub line_tells_reason : (plan : Network) (packet : Option ℕ) (e : Event) (v w : Line) (a b : ℕ) (xs ys : List Explanation)
    → a < 2 ^ 64 → b < 2 ^ 64 → v.verdict ≡ Explained a xs → w.verdict ≡ Explained b ys
    → line_text plan packet e v ≡ line_text plan packet e w → a ≡ b
line_tells_reason plan packet e v w a b xs ys ha hb is is' same =
    reason_same e.octets a b xs ys (rest_of plan v) (rest_of plan w) ha hb
    (subst (λ (x : Verdict). tail e.octets x (rest_of plan v) ≡ tail e.octets (Explained b ys) (rest_of plan w)) is
    (subst (λ (y : Verdict). tail e.octets v.verdict (rest_of plan v) ≡ tail e.octets y (rest_of plan w)) is'
    (tails_same plan packet e v w same)))
