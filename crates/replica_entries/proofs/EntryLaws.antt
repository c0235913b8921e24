-- What reading makes of any bytes: an entry that they spell, or a fault that they have.
use Rattle.std.proofs.Common.{◌≡◌, ◌≢◌, ℕ, ℤ, pos, negsuc, ◌<◌, ◌^◌, Bool, true, false, cond, eqb, List, [], ◌++◌, length, Option, Some, None, Result, Ok, Err, refl, sym, ap, subst, ◌∙◌, append_assoc}
use Rattle.std.specs.Prelude.{MatchResult, FitsSigned, nat_le}
use Rattle.std.specs.Int.{Width, w16, w32, w64}
use Rattle.std.specs.Ordering.{int_eq}
use Rattle.std.proofs.lemmas.Bool.{eqb-true, leb-true, and_parts}
use Rattle.std.proofs.lemmas.Bool.Decides.{Decides-int_eq}
use Rattle.std.proofs.lemmas.List.{append-nil, nil_from_length}
use Rattle.flex_wire.specs.declared.fault.WireFault.{WireFault}
use Rattle.flex_wire.specs.declared.fault.WireFault.TheVariants as wire
use Rattle.flex_wire.specs.Spelling.{int16, int32, int64, signed}
use Rattle.flex_wire.specs.Reading.{Read, signed_at}
use Rattle.flex_wire.specs.Composed.{array_at}
use Rattle.flex_wire.specs.Laws.{AreBytes, IsField}
use Rattle.flex_wire.proofs.Fields.{AreBytes-rest}
use Rattle.group_types.specs.Frames.{IsBody}
use Rattle.group_types.specs.Limits.{SMALLEST_BODY, LARGEST_BODY}
use Rattle.replica_entries.specs.declared.kind.Kind.{Kind}
use Rattle.replica_entries.specs.declared.kind.Kind.TheVariants.{Frame, Tick, Image, Leads}
use Rattle.replica_entries.specs.declared.fault.EntryFault.{EntryFault}
use Rattle.replica_entries.specs.declared.fault.EntryFault.TheVariants.{Wire, UnknownVersion, UnknownKind, BadNumber, BadBody, LeftOver, NoMemory}
use Rattle.replica_entries.specs.Kinds.{VERSION, kind_number, kind_with}
use Rattle.replica_entries.specs.Faults.{entry_fault}
use Rattle.replica_entries.specs.Values.{FrameValue, ContentValue, frame, tick, image, leads, kind_of}
use Rattle.replica_entries.specs.Spelling.{frame_fields, content_fields, head_fields, entry_fields, FitsFrameNumbers, FitsNumbers, FitsBody, FitsTopics, SpellsEntry}
use Rattle.replica_entries.specs.Heads.{HasUnknownVersion, HasUnknownKind, HasLeftOver}
use Rattle.replica_entries.specs.Reading.{and_then, field_of, whole, not_negative, number_at, known_kind, kind_behind, kind_at, is_body, frame_at, topic_at, content_at, entry_at}
use Rattle.replica_entries.proofs.TopicLaws.{int16_is_field, int32_is_field, int64_is_field, topics_are_field, below32, below64}

-- ---- steps

-- what a step gives: a value of which Q holds, or a fault of which P does
pub record Gets {A : Type 0} (r : Result A EntryFault) (Q : A → Type 0) (P : EntryFault → Type 0) : Type 0 where
  pub holds : MatchResult r Q P

-- what a step gives, and then what comes after it
pub step : {A B : Type 0} {Q : A → Type 0} {R : B → Type 0} {P : EntryFault → Type 0} (r : Result A EntryFault) (more : A → Result B EntryFault) → Gets r Q P → ((x : A) → Q x → Gets (more x) R P) → Gets (and_then r more) R P
step (Ok x) more given next = next x given.holds
step (Err fault) more given next = record { holds = given.holds }

-- the same under another account
recast : {A : Type 0} {Q R : A → Type 0} {P S : EntryFault → Type 0} (r : Result A EntryFault) → ((x : A) → Q x → R x) → ((fault : EntryFault) → P fault → S fault) → Gets r Q P → Gets r R S
recast (Ok x) ok err given = record { holds = ok x given.holds }
recast (Err fault) ok err given = record { holds = err fault given.holds }

of_field : {V : Type 0} {F : V → Type 0} {s : V → List ℕ} {read : List ℕ → Read V} {P : EntryFault → Type 0} → IsField F s read → (bytes : List ℕ) → AreBytes bytes → ((fault : WireFault) → P (entry_fault fault)) → (r : Read V) → read bytes ≡ r → Gets (field_of r) (λ x. F x.0 × (bytes ≡ s x.0 ++ x.1)) P
of_field field bytes are bad (Ok x) e = record { holds = field.taken bytes x.0 x.1 are e }
of_field field bytes are bad (Err fault) e = record { holds = bad fault }

-- a field
a_field : {V : Type 0} {F : V → Type 0} {s : V → List ℕ} {read : List ℕ → Read V} {P : EntryFault → Type 0} → IsField F s read → (bytes : List ℕ) → AreBytes bytes → ((fault : WireFault) → P (entry_fault fault)) → Gets (field_of (read bytes)) (λ x. F x.0 × (bytes ≡ s x.0 ++ x.1)) P
a_field {read = read} field bytes are bad = of_field field bytes are bad (read bytes) refl

of_number : (w : Width) (bytes : List ℕ) {P : EntryFault → Type 0} → P BadNumber → (z : ℤ) (rest : List ℕ) → FitsSigned w z → bytes ≡ signed w z ++ rest → Gets (not_negative z rest) (λ x. FitsSigned w (pos x.0) × (bytes ≡ signed w (pos x.0) ++ x.1)) P
of_number w bytes negative (pos n) rest fits is = record { holds = (fits, is) }
of_number w bytes negative (negsuc n) rest fits is = record { holds = negative }

-- a number that isn't negative
a_number : (w : Width) {P : EntryFault → Type 0} → IsField (FitsSigned w) (signed w) (signed_at w) → (bytes : List ℕ) → AreBytes bytes → ((fault : WireFault) → P (entry_fault fault)) → P BadNumber → Gets (number_at w bytes) (λ x. FitsSigned w (pos x.0) × (bytes ≡ signed w (pos x.0) ++ x.1)) P
unfolding number_at
a_number w field bytes are bad negative =
    step (field_of (signed_at w bytes)) (λ z. not_negative z.0 z.1) (a_field field bytes are bad) (λ z h. of_number w bytes negative z.0 z.1 h.0 h.1)

some_left : (rest : List ℕ) → eqb (length rest) 0 ≡ false → rest ≢ []
some_left rest test none = let h = ap (λ (l : List ℕ). eqb (length l) 0) none in absurd cc

of_rest : {A : Type 0} {Q : A → Type 0} {P : EntryFault → Type 0} (x : A) (rest : List ℕ) → (rest ≡ [] → Q x) → (rest ≢ [] → P LeftOver) → (b : Bool) → eqb (length rest) 0 ≡ b → Gets (cond b (Ok x) (Err LeftOver)) Q P
of_rest x rest all more true test = record { holds = all (nil_from_length rest (eqb-true _ _ test)) }
of_rest x rest all more false test = record { holds = more (some_left rest test) }

-- what is left, or nothing
a_whole : {A : Type 0} {Q : A → Type 0} {P : EntryFault → Type 0} (x : A) (rest : List ℕ) → (rest ≡ [] → Q x) → (rest ≢ [] → P LeftOver) → Gets (whole x rest) Q P
a_whole x rest all more = of_rest x rest all more (eqb (length rest) 0) refl

-- ---- the head

-- the fault is one that the bytes have
abbrev pub IsTrueOf : List ℕ → EntryFault → Type 0
IsTrueOf bytes (Wire fault) = Unit {0}
IsTrueOf bytes UnknownVersion = HasUnknownVersion bytes
IsTrueOf bytes UnknownKind = HasUnknownKind bytes
IsTrueOf bytes BadNumber = Unit {0}
IsTrueOf bytes BadBody = Unit {0}
IsTrueOf bytes LeftOver = HasLeftOver bytes
IsTrueOf bytes NoMemory = Unit {0}

field_fault : (bytes : List ℕ) (fault : WireFault) → IsTrueOf bytes (entry_fault fault)
field_fault bytes wire.Short = tt
field_fault bytes wire.NotShortest = tt
field_fault bytes wire.TooLong = tt
field_fault bytes wire.NotUtf8 = tt
field_fault bytes wire.TagOrder = tt
field_fault bytes wire.BadCount = tt
field_fault bytes wire.BadMark = tt
field_fault bytes wire.NoMemory = tt

-- the bytes begin with the version and the kind
abbrev pub BeginsWith : Kind → List ℕ → List ℕ → Type 0
BeginsWith kind rest bytes = bytes ≡ int16 VERSION ++ (int16 (kind_number kind) ++ rest)

abbrev four : (a b c d : Bool) → Option Kind
four a b c d = cond a (Some Frame) (cond b (Some Tick) (cond c (Some Image) (cond d (Some Leads) None)))

named : (a b c d : Bool) (n : ℕ) (kind : Kind) → (a ≡ true → n ≡ 0) → (b ≡ true → n ≡ 1) → (c ≡ true → n ≡ 2) → (d ≡ true → n ≡ 3) → four a b c d ≡ Some kind → pos n ≡ kind_number kind
named true b c d n Frame zero one two three e = ap pos (zero refl)
named true b c d n Tick zero one two three e = absurd cc
named true b c d n Image zero one two three e = absurd cc
named true b c d n Leads zero one two three e = absurd cc
named false true c d n Frame zero one two three e = absurd cc
named false true c d n Tick zero one two three e = ap pos (one refl)
named false true c d n Image zero one two three e = absurd cc
named false true c d n Leads zero one two three e = absurd cc
named false false true d n Frame zero one two three e = absurd cc
named false false true d n Tick zero one two three e = absurd cc
named false false true d n Image zero one two three e = ap pos (two refl)
named false false true d n Leads zero one two three e = absurd cc
named false false false true n Frame zero one two three e = absurd cc
named false false false true n Tick zero one two three e = absurd cc
named false false false true n Image zero one two three e = absurd cc
named false false false true n Leads zero one two three e = ap pos (three refl)
named false false false false n kind zero one two three e = absurd cc

kind_is : (z : ℤ) (kind : Kind) → kind_with z ≡ Some kind → z ≡ kind_number kind
kind_is (pos n) kind e = named (eqb n 0) (eqb n 1) (eqb n 2) (eqb n 3) n kind (eqb-true n 0) (eqb-true n 1) (eqb-true n 2) (eqb-true n 3) e
kind_is (negsuc n) kind e = absurd cc

a_kind : (bytes : List ℕ) (z : ℤ) (rest : List ℕ) → FitsSigned w16 z → bytes ≡ int16 VERSION ++ (int16 z ++ rest) → (o : Option Kind) → kind_with z ≡ o → Gets (known_kind o rest) (λ x. BeginsWith x.0 x.1 bytes) (IsTrueOf bytes)
a_kind bytes z rest fits is None e = record { holds = (z, rest, fits, e, is) }
a_kind bytes z rest fits is (Some kind) e = record { holds = is ∙ ap (λ (k : ℤ). int16 VERSION ++ (int16 k ++ rest)) (kind_is z kind e) }

behind_version : (bytes : List ℕ) (z : ℤ) (rest : List ℕ) → AreBytes rest → FitsSigned w16 z → bytes ≡ int16 z ++ rest → (b : Bool) → int_eq z VERSION ≡ b → Gets (cond b (and_then (field_of (signed_at w16 rest)) (λ kind. known_kind (kind_with kind.0) kind.1)) (Err UnknownVersion)) (λ x. BeginsWith x.0 x.1 bytes) (IsTrueOf bytes)
behind_version bytes z rest are fits is true test =
    let begins : bytes ≡ int16 VERSION ++ rest = is ∙ ap (λ (k : ℤ). int16 k ++ rest) ((Decides-int_eq z VERSION).0 test) in
    step (field_of (signed_at w16 rest)) (λ kind. known_kind (kind_with kind.0) kind.1) (a_field {P = IsTrueOf bytes} int16_is_field rest are (field_fault bytes)) (λ kind h. a_kind bytes kind.0 kind.1 h.0 (begins ∙ ap (λ (l : List ℕ). int16 VERSION ++ l) h.1) (kind_with kind.0) refl)
behind_version bytes z rest are fits is false test =
    record { holds = (z, rest, fits, (λ same. let h = (Decides-int_eq z VERSION).1 same in absurd cc), is) }

-- the head of any bytes
a_head : (bytes : List ℕ) → AreBytes bytes → Gets (kind_at bytes) (λ x. BeginsWith x.0 x.1 bytes) (IsTrueOf bytes)
unfolding kind_at
a_head bytes are =
    step (field_of (signed_at w16 bytes)) (λ version. kind_behind version.0 version.1) (a_field {P = IsTrueOf bytes} int16_is_field bytes are (field_fault bytes))
    (λ version h. behind_version bytes version.0 version.1 (AreBytes-rest (int16 version.0) version.1 (subst AreBytes h.1 are)) h.0 h.1 (int_eq version.0 VERSION) refl)

-- ---- what an entry brings

-- what an entry of the kind can bring
pub record IsContent (kind : Kind) (content : ContentValue) : Type 0 where
  pub kind_is : kind_of content ≡ kind
  pub numbers : FitsNumbers content
  pub body : FitsBody content
  pub topics : FitsTopics content

-- it is all of the bytes behind the leadership, or has more behind it
abbrev IsAll : Kind → List ℕ → ContentValue → Type 0
IsAll kind bytes content = IsContent kind content × (bytes ≡ content_fields content)

abbrev HasMore : Kind → List ℕ → EntryFault → Type 0
HasMore kind bytes (Wire fault) = Unit {0}
HasMore kind bytes UnknownVersion = ⊥
HasMore kind bytes UnknownKind = ⊥
HasMore kind bytes BadNumber = Unit {0}
HasMore kind bytes BadBody = Unit {0}
HasMore kind bytes LeftOver = (content : ContentValue) × (rest : List ℕ) × IsContent kind content × (kind ≢ Frame) × (rest ≢ []) × (bytes ≡ content_fields content ++ rest)
HasMore kind bytes NoMemory = Unit {0}

more_fault : (kind : Kind) (bytes : List ℕ) (fault : WireFault) → HasMore kind bytes (entry_fault fault)
more_fault kind bytes wire.Short = tt
more_fault kind bytes wire.NotShortest = tt
more_fault kind bytes wire.TooLong = tt
more_fault kind bytes wire.NotUtf8 = tt
more_fault kind bytes wire.TagOrder = tt
more_fault kind bytes wire.BadCount = tt
more_fault kind bytes wire.BadMark = tt
more_fault kind bytes wire.NoMemory = tt

-- content with these bytes behind it
behind_content : (kind : Kind) (bytes : List ℕ) (content : ContentValue) (rest : List ℕ) → IsContent kind content → kind ≢ Frame → bytes ≡ content_fields content ++ rest → Gets (whole content rest) (IsAll kind bytes) (HasMore kind bytes)
behind_content kind bytes content rest fits other is =
    a_whole content rest
    (λ none. (fits, is ∙ (ap (λ (l : List ℕ). content_fields content ++ l) none ∙ append-nil (content_fields content))))
    (λ some. (content, rest, fits, other, some, is))

to_body : (body : List ℕ) → is_body body ≡ true → IsBody body
to_body body test =
    let p = and_parts (nat_le SMALLEST_BODY (length body)) (nat_le (length body) LARGEST_BODY) test in
    (leb-true SMALLEST_BODY (length body) p.0, leb-true (length body) LARGEST_BODY p.1)

of_body : (bytes : List ℕ) (f : FrameValue) → FitsFrameNumbers f → bytes ≡ frame_fields f → (b : Bool) → is_body f.body ≡ b → Gets (cond b (Ok f) (Err BadBody)) (λ g. FitsFrameNumbers g × IsBody g.body × (bytes ≡ frame_fields g)) (HasMore Frame bytes)
of_body bytes f fits is true test = record { holds = (fits, to_body f.body test, is) }
of_body bytes f fits is false test = record { holds = tt }

frame_joined : (bytes after behind body : List ℕ) (connection number moment : ℕ) → bytes ≡ int32 (pos connection) ++ after → after ≡ int64 (pos number) ++ behind → behind ≡ int64 (pos moment) ++ body → bytes ≡ frame_fields (record { connection = connection; number = number; moment = moment; body = body })
unfolding frame_fields
frame_joined bytes after behind body connection number moment one two three =
    one ∙ ap (λ (l : List ℕ). int32 (pos connection) ++ l) (two ∙ ap (λ (l : List ℕ). int64 (pos number) ++ l) (three ∙ ap (λ (l : List ℕ). int64 (pos moment) ++ l) (sym (append-nil body))))

a_frame : (bytes : List ℕ) → AreBytes bytes → Gets (frame_at bytes) (λ f. FitsFrameNumbers f × IsBody f.body × (bytes ≡ frame_fields f)) (HasMore Frame bytes)
unfolding frame_at
a_frame bytes are =
    step (number_at w32 bytes) _ (a_number w32 {P = HasMore Frame bytes} int32_is_field bytes are (more_fault Frame bytes) tt) (λ c hc.
    let are_c = AreBytes-rest (int32 (pos c.0)) c.1 (subst AreBytes hc.1 are) in
    step (number_at w64 c.1) _ (a_number w64 {P = HasMore Frame bytes} int64_is_field c.1 are_c (more_fault Frame bytes) tt) (λ n hn.
    let are_n = AreBytes-rest (int64 (pos n.0)) n.1 (subst AreBytes hn.1 are_c) in
    step (number_at w64 n.1) _ (a_number w64 {P = HasMore Frame bytes} int64_is_field n.1 are_n (more_fault Frame bytes) tt) (λ m hm.
    of_body bytes (record { connection = c.0; number = n.0; moment = m.0; body = m.1 })
    (record { connection = below32 c.0 hc.0; number = below64 n.0 hn.0; moment = below64 m.0 hm.0 })
    (frame_joined bytes c.1 n.1 m.1 c.0 n.0 m.0 hc.1 hn.1 hm.1) (is_body m.1) refl)))

a_content : (kind : Kind) (bytes : List ℕ) → AreBytes bytes → Gets (content_at kind bytes) (IsAll kind bytes) (HasMore kind bytes)
unfolding content_at content_fields
a_content Frame bytes are =
    step (frame_at bytes) (λ f. Ok (frame f)) (a_frame bytes are)
    (λ f h. record { holds = (record { kind_is = refl; numbers = h.0; body = h.1; topics = tt }, h.2) })
a_content Tick bytes are =
    step (number_at w64 bytes) (λ moment. whole (tick moment.0) moment.1) (a_number w64 {P = HasMore Tick bytes} int64_is_field bytes are (more_fault Tick bytes) tt)
    (λ m h. behind_content Tick bytes (tick m.0) m.1 (record { kind_is = refl; numbers = below64 m.0 h.0; body = tt; topics = tt }) (λ same. absurd cc) h.1)
a_content Image bytes are =
    step (field_of (array_at topic_at bytes)) (λ topics. whole (image topics.0) topics.1) (a_field {P = HasMore Image bytes} topics_are_field bytes are (more_fault Image bytes))
    (λ ts h. behind_content Image bytes (image ts.0) ts.1 (record { kind_is = refl; numbers = tt; body = tt; topics = h.0 }) (λ same. absurd cc) h.1)
a_content Leads bytes are =
    behind_content Leads bytes leads bytes (record { kind_is = refl; numbers = tt; body = tt; topics = tt }) (λ same. absurd cc) refl

-- ---- the whole entry

-- the bytes of an entry, by those of what it brings
pub entry_parts : (leadership : ℕ) (content : ContentValue) (rest : List ℕ) → entry_fields (record { leadership = leadership; content = content }) ++ rest ≡ int16 VERSION ++ (int16 (kind_number (kind_of content)) ++ (int32 (pos leadership) ++ (content_fields content ++ rest)))
unfolding entry_fields head_fields
entry_parts leadership content rest = simp append_assoc

-- the same where the kind is known by itself
joined : (bytes behind after : List ℕ) (kind : Kind) (leadership : ℕ) (content : ContentValue) (rest : List ℕ) → BeginsWith kind behind bytes → behind ≡ int32 (pos leadership) ++ after → kind_of content ≡ kind → after ≡ content_fields content ++ rest → bytes ≡ entry_fields (record { leadership = leadership; content = content }) ++ rest
joined bytes behind after kind leadership content rest begins led same is =
    begins
    ∙ (ap (λ (l : List ℕ). int16 VERSION ++ (int16 (kind_number kind) ++ l)) (led ∙ ap (λ (l : List ℕ). int32 (pos leadership) ++ l) is)
    ∙ (ap (λ (k : Kind). int16 VERSION ++ (int16 (kind_number k) ++ (int32 (pos leadership) ++ (content_fields content ++ rest)))) (sym same)
    ∙ sym (entry_parts leadership content rest)))

more_is_true : (bytes behind after : List ℕ) (kind : Kind) (leadership : ℕ) → leadership < 2 ^ 31 → BeginsWith kind behind bytes → behind ≡ int32 (pos leadership) ++ after → (fault : EntryFault) → HasMore kind after fault → IsTrueOf bytes fault
more_is_true bytes behind after kind leadership lt begins led (Wire fault) h = tt
more_is_true bytes behind after kind leadership lt begins led UnknownVersion h = absurd h
more_is_true bytes behind after kind leadership lt begins led UnknownKind h = absurd h
more_is_true bytes behind after kind leadership lt begins led BadNumber h = tt
more_is_true bytes behind after kind leadership lt begins led BadBody h = tt
more_is_true bytes behind after kind leadership lt begins led LeftOver h = (
  record { leadership = leadership; content = h.0 },
  h.1,
  record { leadership = lt; numbers = h.2.numbers; body = h.2.body; topics = h.2.topics },
  (λ same. h.3 (sym h.2.kind_is ∙ same)),
  h.4,
  joined bytes behind after kind leadership h.0 h.1 begins led h.2.kind_is h.5,
)
more_is_true bytes behind after kind leadership lt begins led NoMemory h = tt

all_spells : (bytes behind after : List ℕ) (kind : Kind) (leadership : ℕ) → leadership < 2 ^ 31 → BeginsWith kind behind bytes → behind ≡ int32 (pos leadership) ++ after → (content : ContentValue) → IsAll kind after content → SpellsEntry (record { leadership = leadership; content = content }) bytes
all_spells bytes behind after kind leadership lt begins led content h = record {
  fits = record { leadership = lt; numbers = h.0.numbers; body = h.0.body; topics = h.0.topics };
  bytes = joined bytes behind after kind leadership content [] begins led h.0.kind_is (h.1 ∙ sym (append-nil (content_fields content))) ∙ append-nil (entry_fields (record { leadership = leadership; content = content }));
}

-- what any bytes give: the entry that they spell, or a fault that they have
pub outcome : (bytes : List ℕ) → AreBytes bytes → Gets (entry_at bytes) (λ v. SpellsEntry v bytes) (IsTrueOf bytes)
unfolding entry_at
outcome bytes are =
    step (kind_at bytes) _ (a_head bytes are) (λ k begins.
    let are_k = AreBytes-rest (int16 (kind_number k.0)) k.1 (AreBytes-rest (int16 VERSION) (int16 (kind_number k.0) ++ k.1) (subst AreBytes begins are)) in
    step (number_at w32 k.1) _ (a_number w32 {P = IsTrueOf bytes} int32_is_field k.1 are_k (field_fault bytes) tt) (λ l led.
    let are_l = AreBytes-rest (int32 (pos l.0)) l.1 (subst AreBytes led.1 are_k) in
    step (content_at k.0 l.1) (λ content. Ok (record { leadership = l.0; content = content }))
    (recast (content_at k.0 l.1) (λ content h. all_spells bytes k.1 l.1 k.0 l.0 (below32 l.0 led.0) begins led.1 content h) (more_is_true bytes k.1 l.1 k.0 l.0 (below32 l.0 led.0) begins led.1) (a_content k.0 l.1 are_l))
    (λ content h. record { holds = h })))
