-- The law: how a call is answered after a history that was answered by its rows.
use Rattle.std.proofs.Common.{◌≡◌, ℕ, ◌+◌, ◌*◌, ◌^◌, ◌<◌, ◌≤◌, true, List, length, get_or, Some, None, Option, sym, refl, ap, ◌∙◌, subst, ap₂, arith}
use Rattle.std.proofs.lemmas.List.FromFn.{get_or-map-range_with_len}
use Rattle.refusal.specs.declared.Refusal.TheVariants.{KeyInUse}
use Rattle.refusal.specs.Table.{note_of}
use Rattle.cipher.specs.Word.{fits_mode, tweak_of, Lawful}
use Rattle.memory.specs.Slots.{wide}
use Rattle.image.specs.Laws.{Proper}
use Rattle.image.specs.Layout.{Head}
use Rattle.image.specs.Reading.{head_in}
use Rattle.image.proofs.Laying.{head_proper}
use Rattle.shore.specs.Making.{Made}
use Rattle.shore.proofs.Making.{made_head, made_record, made_words}
use Rattle.life.specs.declared.Answer.{Answer}
use Rattle.life.specs.declared.Call.{Call}
use Rattle.life.specs.declared.Call.TheVariants.{Load, Fetch}
use Rattle.life.specs.Coding.{Coding, Suite, coding, opened_at, tells}
use Rattle.life.specs.Coding.Told.{yielded, refused}
use Rattle.life.specs.Checks.{Program, record_opens, row_by, row_of}
use Rattle.life.specs.History.{Event, key_in, rejections, live, live_by, live_key_by, image_in, program_of, Installed, slot_in, slots_in, overwritten, known_in}
use Rattle.life.specs.Life.{Yields, Untouched, Law, Answered}
use Rattle.life.proofs.Foul.{all_open}
use Rattle.life.proofs.Meeting.{key_live, live_key_lem}
use Rattle.life.proofs.Keeping.{Kept, kept}
use Rattle.life.proofs.Fetching.{fetching_from, fetched_from}

abbrev program_is : List ℕ → Program
program_is image = record { version = (head_in image).version; base = (head_in image).base; count = (head_in image).count }

image_of_lem : (I : Option (List ℕ)) (p : Program) → program_of I ≡ Some p → (image : List ℕ) × (I ≡ Some image) × (program_is image ≡ p)
image_of_lem (Some image) p e = (image, refl, cc)
image_of_lem None p e = absurd cc

in_use : (o : Option ℕ) (c : Coding) (start : List ℕ) (h : List Event) (k : ℕ) → tells (row_by o c (known_in start h) (Load k)) ≡ refused (note_of KeyInUse) → (key : ℕ) × (o ≡ Some key)
in_use (Some key) c start h k e = (key, refl)
in_use None c start h k e = absurd cc

key_of_lem : (K : Option ℕ) (n : ℕ) → live_by K n ≡ true → (k : ℕ) × (K ≡ Some k)
key_of_lem (Some k) n e = (k, refl)
key_of_lem None n e = absurd cc

module _ (u : Suite) (lawful : Lawful u.rule u.mode u.tag) (fits : fits_mode u.mode u.tag ≡ true)
    (start : List ℕ) (h : List Event) (answered : Answered (coding u) start h)
    (key_fits : (k : ℕ) → live_key_by (key_in h) (rejections h) ≡ Some k → k < 2 ^ 128)
    (slot-fits : (j : ℕ) → j < length start → slot_in start h j < wide)
    (call : Call) (answer : Answer) (row : tells answer ≡ tells (row_of (coding u) (known_in start h) call)) where
  abbrev c : Coding
  c = coding u

  keeping : Kept c (length start) (key_in h) (image_in h) (slot_in start h) (λ j. overwritten j h)
  keeping = kept c start h answered

  row_at : (d : Call) → call ≡ d → tells answer ≡ tells (row_of c (known_in start h) d)
  row_at d e = row ∙ ap (λ (z : Call). tells (row_of c (known_in start h) z)) e

  slot_in_lem : (j : ℕ) → j < length start → get_or (slots_in start h) j 0 ≡ slot_in start h j
  slot_in_lem j l = get_or-map-range_with_len (slot_in start h) 0 (length start) j j 0 l (omega arith)

  -- an installed image is proper, and there are slots for it
  proper : (image : List ℕ) → image_in h ≡ Some image → Proper (head_in image)
  proper image e = head_proper image (keeping.checked image e).2.whole

  enough : (image : List ℕ) → image_in h ≡ Some image → (head_in image).count ≤ length start
  enough image e = (keeping.checked image e).2.fits

  tweak_fits : {a : ℕ} (at : Installed h a) → tweak_of (head_in at.image).version a < 2 ^ 64
  tweak_fits at =
      let p = proper at.image at.last in
      omega (arith, p.small, p.within, at.within, at.address)

  -- ---- a fetch that finds an instruction's encryption yields it
  yields_by : (a i k : ℕ) → call ≡ Fetch a → live h ≡ true → key_in h ≡ Some k → (at : Installed h a)
      → opened_at c k (head_in at.image).version a (slot_in start h at.slot) ≡ Some i → tells answer ≡ yielded i
  yields_by a i k e alive loaded at opened =
      row_at (Fetch a) e
      ∙ ap tells (fetched_from c (known_in start h) a i (record {
        key = k;
        keyed = live_key_lem (key_in h) (rejections h) k alive loaded;
        program = program_is at.image;
        installed = ap program_of at.last;
        slot = at.slot;
        address = at.address;
        within = at.within;
        opened = ap (opened_at c k (head_in at.image).version a) (slot_in_lem at.slot (let l = enough at.image at.last in omega (arith, at.within))) ∙ opened;
      }))

  yields : (a i : ℕ) → call ≡ Fetch a → Yields c start h a i → tells answer ≡ yielded i
  yields a i e y =
      let k = live_key_lem (key_in h) (rejections h) y.key y.alive y.loaded in
      let laws = lawful y.key (tweak_of (head_in y.at.image).version a) (key_fits y.key k) (tweak_fits y.at) in
      yields_by a i y.key e y.alive y.loaded y.at
      (ap (opened_at c y.key (head_in y.at.image).version a) y.holds ∙ laws.first i y.word)

  -- ---- and what a fetch yields was found there
  fetched : (a i : ℕ) → call ≡ Fetch a → tells answer ≡ yielded i → Yields c start h a i
  fetched a i e q =
      let f = fetching_from c (known_in start h) a i (sym (row_at (Fetch a) e) ∙ q) in
      let key = key_live (key_in h) (rejections h) f.key f.keyed in
      let g = image_of_lem (image_in h) f.program f.installed in
      let same = g.2 in
      let at : Installed h a = record {
        image = g.0;
        last = g.1;
        slot = f.slot;
        within = subst (λ (p : Program). f.slot < p.count) (sym same) f.within;
        address = subst (λ (p : Program). a ≡ 4 * (p.base + f.slot)) (sym same) f.address;
      } in
      let inside : f.slot < length start = let l = enough g.0 g.1 in omega (arith, at.within) in
      let opened : opened_at c f.key (head_in g.0).version a (slot_in start h f.slot) ≡ Some i =
      ap₂ (λ (p : Program) (n : ℕ). opened_at c f.key p.version a n) same (sym (slot_in_lem f.slot inside)) ∙ f.opened in
      let small = slot-fits f.slot inside in
      let laws = lawful f.key (tweak_of (head_in g.0).version a) (key_fits f.key f.keyed) (tweak_fits at) in
      let w = laws.second (slot_in start h f.slot) i (omega arith) opened in
      record { alive = key.0; key = f.key; loaded = key.1; at = at; word = w.0; holds = w.1 }

  -- ---- an untouched address yields what its record decrypts to
  record_opens_lem : (a : ℕ) (t : Untouched h a) → (i : ℕ) × (record_opens c t.key t.at.image (head_in t.at.image) t.at.slot ≡ Some i)
  record_opens_lem a t =
      let image = t.at.image in
      let m = keeping.checked image t.at.last in
      let same : m.0 ≡ t.key = let q : Some m.0 ≡ Some t.key = sym m.1 ∙ t.loaded in cc in
      let o = all_open (record_opens c m.0 image (head_in image)) 0 (head_in image).count t.at.slot m.2.opens (omega arith) (omega (arith, t.at.within)) in
      (o.0, ap (λ (k : ℕ). record_opens c k image (head_in image) t.at.slot) (sym same) ∙ o.1)

  yields_record : (a i : ℕ) → call ≡ Fetch a → (t : Untouched h a) → record_opens c t.key t.at.image (head_in t.at.image) t.at.slot ≡ Some i → tells answer ≡ yielded i
  yields_record a i e t opened =
      let image = t.at.image in
      yields_by a i t.key e t.alive t.loaded t.at
      (ap₂ (λ (b n : ℕ). opened_at c t.key (head_in image).version b n) t.at.address (keeping.same image t.at.slot t.at.last t.at.within t.kept)
      ∙ opened)

  -- ---- and that is the instruction put in
  put_in : (a : ℕ) → call ≡ Fetch a → (t : Untouched h a) → (version base : ℕ) (instructions : List ℕ)
      → Made (record { rule = u.rule; mode = u.mode; tag = u.tag; key = t.key }) version base instructions t.at.image
      → tells answer ≡ yielded (get_or instructions t.at.slot 0)
  put_in a e t version base instructions made =
      let image = t.at.image in
      let k = t.at.slot in
      let i = get_or instructions k 0 in
      let small = key_fits t.key (live_key_lem (key_in h) (rejections h) t.key t.alive t.loaded) in
      let head = made_head _ version base instructions image fits made in
      let count : (head_in image).count ≡ length instructions = ap (λ (z : Head). z.count) head in
      let inside : k < length instructions = omega (arith, t.at.within) in
      let written = made_record _ version base instructions image fits lawful small made k inside in
      let address : 4 * ((head_in image).base + k) ≡ a = sym t.at.address in
      let same-tweak : tweak_of version (4 * (base + k)) ≡ tweak_of (head_in image).version (4 * ((head_in image).base + k)) = sym (ap (λ (z : Head). tweak_of z.version (4 * (z.base + k))) head) in
      let fits-64 : tweak_of (head_in image).version (4 * ((head_in image).base + k)) < 2 ^ 64 = subst (λ (b : ℕ). tweak_of (head_in image).version b < 2 ^ 64) (sym address) (tweak_fits t.at) in
      let laws = lawful t.key (tweak_of (head_in image).version (4 * ((head_in image).base + k))) small fits-64 in
      yields_record a i e t
      (ap (opened_at c t.key (head_in image).version (4 * ((head_in image).base + k))) (written ∙ ap (λ (w : ℕ). u.rule t.key u.mode u.tag w i) same-tweak)
      ∙ laws.first i (made_words _ version base instructions image made k inside))

  pub law : Law c start h call answer
  law = record {
    row = row;
    fetched = fetched;
    yields = yields;
    keeps = λ a e t. let o = record_opens_lem a t in (o.0, o.1, yields_record a o.0 e t o.1);
    made = put_in;
    in_use = λ k e q.
        let o = in_use (live_key_by (key_in h) (rejections h)) c start h k (sym (row_at (Load k) e) ∙ q) in
        (key_live (key_in h) (rejections h) o.0 o.1).0;
    is_live = λ k e l.
        let o = key_of_lem (key_in h) (rejections h) l in
        row_at (Load k) e ∙ ap (λ (z : Option ℕ). tells (row_by z c (known_in start h) (Load k))) (live_key_lem (key_in h) (rejections h) o.0 l o.1);
  }
