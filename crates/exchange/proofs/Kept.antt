-- What a conversion keeps, in either direction: the header's numbers and each descriptor, and so the rules of the list.
use Prim.Native.Nat.{ℕ, ◌≤◌, ◌<◌}
use mathlib.Core.List.{List, ◌++◌}
use mathlib.Core.Path.{◌≡◌, sym, ◌∙◌, subst}
use native.Mathlib.Omega.{arith}
use lib.ListN.{drop}
use Rattle.convert.proofs.Turned.{length_list, list_at}
use Rattle.convert.specs.Convert.{list_in}
use Rattle.layout.proofs.Fits.{header_fits, descriptor_fits}
use Rattle.layout.specs.Bytes.{header_in, laid}
use Rattle.layout.specs.Promises.{HeaderFits, DescriptorFits}
use Rattle.layout.specs.declared.Descriptor.{Descriptor}
use Rattle.offences.proofs.Checks.{before_same}
use Rattle.offences.proofs.Laid.{laid_header, laid_descriptor}
use Rattle.offences.specs.Checks.{base_of, descriptor_at, last_before}
use Rattle.reader.proofs.Taken.{Listed}
use Rattle.request.specs.Requests.{filter_of, report_type_of, start_of}
use Rattle.request.specs.declared.Request.{Request}
use Rattle.slices.proofs.Lists.{every_below}
use Rattle.words.proofs.Bytes.{bytes_drop}
use Rattle.words.specs.declared.Order.{Order}
use Rattle.exchange.specs.Exchange.{Bytes}

-- header and descriptors whose numbers fit, as those that are read from bytes
pub record FitsIn (o : Order) (s : List ℕ) (n : ℕ) : Type 0 where
  pub header : HeaderFits (header_in o s)
  pub list : (k : ℕ) → k < n → DescriptorFits (descriptor_at o s k)

pub bytes_fit : (o : Order) (s : List ℕ) (n : ℕ) → Bytes s → FitsIn o s n
bytes_fit o s n e = record { header = header_fits o s e; list = λ k l. descriptor_fits o (drop (base_of k) s) (bytes_drop (base_of k) s e) }

-- a descriptor that keeps the rules of one request keeps those of another with its filter and report type, and a start that is not above
pub listed_as : (p q : Request) → filter_of q ≡ filter_of p → report_type_of q ≡ report_type_of p → start_of q ≤ start_of p
    → (last : ℕ) (d : Descriptor) → Listed p last d → Listed q last d
listed_as p q same_filter same_type not_above last d was =
    record {
      some = was.some;
      started = omega (arith, was.started);
      rises = was.rises;
      earned = was.earned;
      typed = λ e. was.typed (sym same_type ∙ e);
      filtered = λ e. was.filtered (sym same_filter ∙ e);
    }

module _ (from to : Order) (s : List ℕ) (n : ℕ) (fits : FitsIn from s n) (rest : List ℕ) where
  abbrev t : List ℕ
  t = laid to (header_in from s) (list_in from s n) ++ rest

  pub header_kept : header_in to t ≡ header_in from s
  header_kept = laid_header to (header_in from s) (list_in from s n) rest fits.header

  pub descriptor_kept : (k : ℕ) → k < n → descriptor_at to t k ≡ descriptor_at from s k
  descriptor_kept k l =
      laid_descriptor to (header_in from s) (list_in from s n) rest (every_below DescriptorFits (descriptor_at from s) n fits.list) k (descriptor_at from s 0)
      (omega (arith, length_list from s n))
      ∙ list_at from s n k l

  last_kept : (k : ℕ) → k < n → last_before to t k ≡ last_before from s k
  last_kept k l = before_same to from t s k (λ j h. descriptor_kept j (omega arith))

  pub fits_kept : FitsIn to t n
  fits_kept = record {
    header = subst HeaderFits (sym header_kept) fits.header;
    list = λ k l. subst DescriptorFits (sym (descriptor_kept k l)) (fits.list k l);
  }

  pub list_kept : (q : Request) → ((k : ℕ) → k < n → Listed q (last_before from s k) (descriptor_at from s k))
      → (k : ℕ) → k < n → Listed q (last_before to t k) (descriptor_at to t k)
  list_kept q list k l =
      subst (λ (m : ℕ). Listed q m (descriptor_at to t k)) (sym (last_kept k l))
      (subst (λ (x : Descriptor). Listed q (last_before from s k) x) (sym (descriptor_kept k l)) (list k l))
