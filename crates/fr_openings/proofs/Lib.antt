pub mod AsideLemmas
