-- How long an encoded record is: the lemmas of specs, where the impls of `Record` cite them.
pub use Rattle.block.specs.Sizes.{length_two, length-four, length-enc_id, length-enc_entry, length-enc_waiter, length-enc_slot, length-enc_words, length-enc_ids, enc_ids-all, length-enc_thread, length-enc_head}
