mod Going
mod Making
